-- The usual pairs are brackets.
use Rattle.std.proofs.Common.{◌≡◌, List, sym, ap, ◌∙◌}
use Rattle.pairing_defs.specs.declared.PairText.{PairText}
use Rattle.pairing_defs.specs.declared.BracketText.{BracketText}
use Rattle.pairing_defs.specs.Marks.{usual_texts}
use Rattle.pairing_defs.specs.BracketTexts.{BracketsOfPairs, brackets_of, usual_pairs, brackets}
use Rattle.pairing_defs.specs.BracketTextExamples.{the_usual_pairs_are_the_usual_texts}

pub usual_brackets : (pairs : List PairText) (texts : List BracketText) → pairs ≡ usual_pairs
    → brackets_of pairs ≡ brackets texts → texts ≡ usual_texts
usual_brackets pairs texts usual made =
    let both : brackets usual_texts ≡ brackets texts =
    sym the_usual_pairs_are_the_usual_texts ∙ ap brackets_of (sym usual) ∙ made in
    cc

-- no limit is passed
pub usual_fit : (pairs : List PairText) (made : BracketsOfPairs) → pairs ≡ usual_pairs → brackets_of pairs ≡ made
    → (brackets usual_texts ≡ made → ⊥) → ⊥
usual_fit pairs made usual is other =
    other (sym the_usual_pairs_are_the_usual_texts ∙ ap brackets_of (sym usual) ∙ is)
