use Rattle.unicode.specs.GeneralCategory.{general_category}
use Rattle.char_sets.specs.Named.{is_word, has_category}
use Rattle.char_sets.proofs.Categories.{word_numbers}
use Rattle.char_sets.proofs.Sets.{IfOk-IsSetOf}
use Rattle.char_sets.proofs.named.word.Goals as goal

pub returns : goal.returns
unfolding is_word
returns c =
    IfOk-IsSetOf c.of_categories.result (λ d. has_category 2_559 (general_category d)) is_word c.of_categories.ensures
    (λ d _. word_numbers (general_category d))
