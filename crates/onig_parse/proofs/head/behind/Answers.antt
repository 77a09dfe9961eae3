use Rattle.onig_parse.proofs.TextLemmas.{take-drop-min}
use Rattle.onig_parse.proofs.head.behind.Goals as goal

pub returns-clause-rest : goal.returns-clause-rest
returns-clause-rest c = take-drop-min c.args.count c.min-count.result c.args.cs.now c.min-count.ensures
