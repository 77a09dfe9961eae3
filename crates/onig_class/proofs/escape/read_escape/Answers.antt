use Rattle.std.proofs.lemmas.List.{drop-drop}
use Rattle.onig_class.proofs.escape.read_escape.Goals as goal

pub returns-clause-value : goal.returns-clause-value
returns-clause-value c = rw (drop-drop 1 c.args.at c.args.text.now) c.made.ensures.value
