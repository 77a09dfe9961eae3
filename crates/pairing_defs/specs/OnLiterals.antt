-- Examples in which characters are asked whether they are those of words unfold this, so as to compute.
use Rattle.std.specs.Prelude.{⊤}
use Rattle.ucd_table.specs.Rows.{value_in}
use Rattle.ucd_category.specs.GeneralCategory.{general_category}
use Rattle.ucd_category.specs.GeneralCategoryRows.{general_category_rows}
use Rattle.char_sets.specs.Named.{is_word}

unfoldable pub words_on_literals : ⊤
unfolding is_word general_category value_in general_category_rows
words_on_literals = tt
