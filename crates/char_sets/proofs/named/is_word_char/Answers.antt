use Rattle.std.proofs.Common.{◌||◌, ◌==◌, sym, ap, ◌∙◌, rules}
use Rattle.unicode.specs.GeneralCategory.{general_category}
use Rattle.ucd_category.specs.GeneralCategory.{general_category_number}
use Rattle.char_sets.specs.Named.{is_word, has_number}
use Rattle.char_sets.proofs.Categories.{is_word-ascii, word_numbers}
use Rattle.char_sets.proofs.named.is_word_char.Goals as goal

pub returns-then-is_ascii : goal.returns-then-is_ascii
returns-then-is_ascii c =
    ap (λ b. b || (c.args.c == 95)) c.is_ascii_alphanumeric.ensures.value ∙ sym (is_word-ascii c.args.c (search rules))

pub returns : goal.returns
unfolding is_word
returns c =
    c.has.ensures
    ∙ ap (has_number 2_559) (c.number.ensures ∙ ap general_category_number c.for_char.ensures)
    ∙ word_numbers (general_category c.args.c)
