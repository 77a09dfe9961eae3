-- Places. The place of an offset is the number of LFs before it and the number of characters since the
-- last of these. Columns count Unicode scalar values, which is this project's own.
use Rattle.std.specs.Prelude.{ℕ, ◌+◌, ◌==◌, List, length, Bool, ◌&&◌, ◌||◌, nat_lt, nat_le, take, sum_by}
use Rattle.text_pos.specs.declared.length.Pos.{Pos}
use Rattle.text_defs.specs.Text.{lines_of, line_of, line_count, whole_lines, unfinished}

-- the place of an offset
abbrev pub place_of : List ℕ → ℕ → Pos
place_of text offset = record { line = length (whole_lines (take offset text)); col = length (unfinished (take offset text)) }

-- whether a place is that of an offset: its line is there, and has at least so many characters
abbrev pub holds : List ℕ → Pos → Bool
holds text at = nat_lt at.line (line_count text) && nat_le at.col (length (line_of text at.line))

-- the offset whose place this is: each line before it and its LF, and then the column
abbrev pub offset_of : List ℕ → Pos → ℕ
offset_of text at = sum_by (λ line. length line + 1) (take at.line (lines_of text)) + at.col

-- whether a place is before another, by line and then by column
abbrev pub is_before : Pos → Pos → Bool
is_before a b = nat_lt a.line b.line || (a.line == b.line && nat_lt a.col b.col)
