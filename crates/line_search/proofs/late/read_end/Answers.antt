use Rattle.std.proofs.Common.{◌≡◌, subst, sym}
use Rattle.std.specs.Prelude.{chars, Option, IfOk}
use Rattle.pattern_defs.specs.Patterns.{Tree}
use Rattle.canonical_laws.proofs.Readings.{tree_read-canonical}
use Rattle.line_defs.specs.Search.{OfEnd, choice_of}
use Rattle.line_search.proofs.late.read_end.Goals as goal

pub returns-in-Ok : goal.returns-in-Ok
returns-in-Ok c =
    subst (λ (o : Option Tree). IfOk c.end_choice.result (λ choices. choices ≡ choice_of OfEnd o))
    (sym (tree_read-canonical (chars c.args.text.now) c.in-Ok.pattern c.in-Ok.ensures)) c.end_choice.ensures
