use Rattle.std.proofs.Common.{◌||◌, ap, ap₂, refl, ◌∙◌}
use Rattle.std.specs.Prelude.{codes}
use Rattle.unicode.specs.GeneralCategory.{general_category}
use Rattle.char_sets.specs.Ranges.{in_set, rises}
use Rattle.char_sets.proofs.Categories.{punctuation_numbers}
use Rattle.char_sets.proofs.Sets.{IfOk-IsSetOf, in_set-codes}
use Rattle.char_sets.proofs.named.punct.Goals as goal

pub of_codes-requires : goal.of_codes-requires
unfolding rises
of_codes-requires c = refl

pub returns : goal.returns
returns c =
    IfOk-IsSetOf c.union-2.result _ _ c.union-2.ensures
    (λ d lt. ap₂ ◌||◌
    (c.in_ok-punctuation.ensures d lt ∙ punctuation_numbers (general_category d))
    (ap (λ s. in_set s d) c.in_ok-of_codes.ensures ∙ in_set-codes (codes "$+<=>^`|~") d))
