use Rattle.std.proofs.Common.{◌||◌, ◌==◌, ◌∷◌, [], ap, ap₂, refl, ◌∙◌}
use Rattle.unicode.specs.GeneralCategory.{general_category}
use Rattle.char_sets.specs.Ranges.{in_set, rises}
use Rattle.char_sets.proofs.Categories.{separator_numbers}
use Rattle.std.proofs.Math.Bool.{or-false}
use Rattle.char_sets.proofs.Sets.{IfOk-IsSetOf, in_set-codes}
use Rattle.char_sets.proofs.named.blank.Goals as goal

pub of_codes-requires : goal.of_codes-requires
unfolding rises
of_codes-requires c = refl

pub returns : goal.returns
returns c =
    IfOk-IsSetOf c.union-2.result _ _ c.union-2.ensures
    (λ d lt. ap₂ ◌||◌
    (c.in_ok-separators.ensures d lt ∙ separator_numbers (general_category d))
    (ap (λ s. in_set s d) c.in_ok-of_codes.ensures ∙ in_set-codes (9 ∷ []) d ∙ or-false (d == 9)))
