-- The lines of a text with its marks are lines that a source may have.
use Rattle.std.specs.Prelude.{◌≡◌, ℕ, List, length, map, Bool, Some, slice_get}
use Rattle.pairing_defs.specs.declared.BracketText.{BracketText}
use Rattle.pairing_defs.specs.Marks.{marks_of, usual_texts}
use Rattle.bracket_marks.specs.MarkedLine.{marked_line}
use Rattle.mark_source.specs.Source.{IsRole, IsMarked, AreMarked}

-- each opener among the texts is of a kind below 64
abbrev pub HaveKinds : List BracketText → Type 0
HaveKinds texts = (n : ℕ) (b : BracketText) → slice_get texts n ≡ Some b → IsRole b.role

-- a line with its marks, whichever columns count
abbrev pub LinesAreMarked : Type 0
LinesAreMarked = (texts : List BracketText) (long : ℕ) (counts : ℕ → Bool) (line : List ℕ) → HaveKinds texts
    → IsMarked (record { marks = marks_of texts long counts line; length = length line })

-- the lines of a text, where every column counts
abbrev pub TextsAreMarked : Type 0
TextsAreMarked = (texts : List BracketText) (long : ℕ) (lines : List (List ℕ)) → HaveKinds texts
    → AreMarked (map (marked_line texts long) lines)

-- those of the usual pairs are such texts
abbrev pub UsualTextsHaveKinds : Type 0
UsualTextsHaveKinds = HaveKinds usual_texts
