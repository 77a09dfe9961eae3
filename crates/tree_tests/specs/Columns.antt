-- Texts of one column.
use Rattle.std.specs.Prelude.{false}
use Rattle.text_pos.specs.declared.length.Length.{Length}
use Rattle.tree_defs.specs.Tree.{Tree, Text}

abbrev pub one_column : Length
one_column = record { lines = 0; cols = 1 }

abbrev pub letter : Tree
letter = Text one_column false
