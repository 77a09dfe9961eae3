-- A tree of an old text, and how a new text came from it.
use Rattle.std.specs.Prelude.{◌≡◌, ℕ, ◌<◌, List, length, map, true}
use Rattle.text_pos.specs.declared.length.Length.{Length}
use Rattle.bracket_marks.specs.MarkedLine.{MarkedLine, marks_in, text_end}
use Rattle.mark_source.specs.Source.{AreMarked}
use Rattle.tree_defs.specs.Tree.{Tree}
use Rattle.tree_defs.specs.Rows.{place}
use Rattle.change_defs.specs.declared.Change.{Change}
use Rattle.change_defs.specs.Changes.{are_in_order}
use Rattle.change_defs.specs.Agreement.{Agree}
use Rattle.reuse_defs.specs.Whole.{StandsFor}

abbrev pub lengths_of : List MarkedLine → List ℕ
lengths_of lines = map (λ l. l.length) lines

-- a tree stands for the marks of old lines, which agree outside changes with those of new lines
pub record Since (limit : ℕ) (t : Tree) (changes : List Change) (lines : List MarkedLine) : Type 0 where
  pub old : List MarkedLine
  pub last : Length
  pub new_last : Length
  pub marked : AreMarked old
  pub some : 0 < length old
  pub is_last : place last ≡ text_end old
  pub is_new_last : place new_last ≡ text_end lines
  pub order : are_in_order changes ≡ true
  pub stands : StandsFor limit t old
  pub agree : Agree changes (record { marks = marks_in old; lines = lengths_of old; end = last })
      (record { marks = marks_in lines; lines = lengths_of lines; end = new_last })
