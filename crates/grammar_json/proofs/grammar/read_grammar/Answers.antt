use Rattle.std.proofs.Common.{ap, sym, ◌∙◌, subst}
use Rattle.std.specs.Prelude.{option_map}
use Rattle.serde_json.specs.View.{view}
use Rattle.grammar_defs.specs.GrammarShape.{grammar_faults}
use Rattle.grammar_json.specs.Faults.{IsFirst}
use Rattle.grammar_json.proofs.ReadingLemmas.{read_wrong}
use Rattle.grammar_json.proofs.grammar.read_grammar.Goals as goal

pub returns-in-Err-Shape : goal.returns-in-Err-Shape
returns-in-Err-Shape c =
    let d = view c.in-Ok-Some.value in
    read_wrong c.args.bytes.now d c.in-Err-Shape.path
    (sym c.in-Ok-Some.ensures ∙ ap (option_map view) c.in-Ok-Some.field-0-is)
    (subst (λ f. IsFirst f (grammar_faults d)) c.in-Err-Shape.field-0-is c.in-Err-Shape.ensures)
