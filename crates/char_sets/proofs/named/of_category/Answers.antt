use Rattle.std.proofs.Common.{◌<◌, ◌*◌, ◌%◌, ◌^◌, ap, arith, ◌∙◌}
use Rattle.unicode.specs.GeneralCategory.{general_category}
use Rattle.ucd_category.specs.GeneralCategory.{general_category_number}
use Rattle.ucd_category.proofs.GeneralCategoryLemmas.{general_category_number-lt}
use Rattle.char_sets.specs.Named.{has_number}
use Rattle.char_sets.proofs.Categories.{has_number-one}
use Rattle.char_sets.proofs.Sets.{IfOk-IsSetOf}
use Rattle.char_sets.proofs.named.of_category.Goals as goal

pub returns : goal.returns
returns c =
    let k = general_category_number c.args.category in
    let few = general_category_number-lt c.args.category in
    let small : k < 32 = omega arith in
    IfOk-IsSetOf c.of_categories.result _ _ c.of_categories.ensures
    (λ d lt. let n = general_category_number (general_category d) in
    ap (λ m. has_number (1 * 2 ^ m % 2 ^ 32) n) c.number.ensures ∙ has_number-one k n small)
