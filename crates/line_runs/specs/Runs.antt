-- What an object that gives the tokens of lines tells of itself.
use Rattle.std.specs.Prelude.{ℕ, ◌+◌, ◌-◌, ◌^◌, List, min}
use Rattle.text_pos.specs.declared.limits.Limits.{Limits}
use Rattle.scope_defs.specs.Frames.{Start, bare}
use Rattle.line_defs.specs.Line.{LineResult}

-- the start, the most groups of a pattern, the limits, and the result of each line from each start
pub record Runs : Type 0 where
  pub start : Start
  pub groups : ℕ
  pub limits : Limits
  pub line : Start → List ℕ → LineResult

-- Places where frames were entered, and their anchors, count for nothing from line to line.
abbrev pub bare_result : LineResult → LineResult
bare_result r = record r { end = bare r.end }

-- a start fits where it is the object's, or the end of a line from one that fits
pub data Fits (runs : Runs) : Start → Type 0 where
  first_line : Fits runs (bare runs.start)
  next_line : (start : Start) (line : List ℕ) → Fits runs start → Fits runs (bare (runs.line start line).end)

-- a count after one more: it stays at the largest number of 64 bits
abbrev pub risen : ℕ → ℕ
risen before = min (before + 1) (2 ^ 64 - 1)
