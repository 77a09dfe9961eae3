-- A line as pairing sees it: its marks and how many characters it has.
use Rattle.std.specs.Prelude.{ℕ, ◌-◌, List, [], ◌∷◌, length, map}
use Rattle.text_pos.specs.declared.length.Pos.{Pos}
use Rattle.pairing_defs.specs.declared.BracketText.{BracketText}
use Rattle.pairing_defs.specs.declared.LineMark.{LineMark}
use Rattle.pairing_defs.specs.declared.Mark.{Mark}
use Rattle.pairing_defs.specs.Marks.{every_column, marks_of, marks_of_lines}

pub record MarkedLine : Type 0 where
  pub marks : List LineMark
  pub length : ℕ

-- the length of the last line
abbrev pub last_length : List MarkedLine → ℕ
last_length [] = 0
last_length (line ∷ []) = line.length
last_length (line ∷ next ∷ rest) = last_length (next ∷ rest)

-- the place of a text's end: behind the last character of the last line
abbrev pub text_end : List MarkedLine → Pos
text_end lines = record { line = length lines - 1; col = last_length lines }

-- all marks of a text's lines, each at its line
abbrev pub marks_in : List MarkedLine → List Mark
marks_in lines = marks_of_lines 0 (map (λ line. line.marks) lines)

-- a line with the marks that these texts give it, where every column counts
abbrev pub marked_line : List BracketText → ℕ → List ℕ → MarkedLine
marked_line texts long line = record { marks = marks_of texts long every_column line; length = length line }
