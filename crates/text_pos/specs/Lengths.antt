-- Lengths of two parts, as in VS Code's bracketPairsTree: line ends, and the characters behind the last.
use Rattle.std.specs.Prelude.{◌≡◌, ◌+◌, ◌<◌, ◌==◌, ◌⊎◌, if◌then◌else◌}
use Rattle.text_pos.specs.declared.length.Length.{Length}

-- a piece and the piece behind it: a line end in the second begins its columns anew
abbrev pub plus : Length → Length → Length
plus a b =
    if b.lines == 0 then record { lines = a.lines; cols = a.cols + b.cols }
    else record { lines = a.lines + b.lines; cols = b.cols }

-- by lines, then by columns
abbrev pub IsLess : Length → Length → Type 0
IsLess a b = (a.lines < b.lines) ⊎ ((a.lines ≡ b.lines) × (a.cols < b.cols))
