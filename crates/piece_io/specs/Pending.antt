-- How a cutter keeps its lines: the bytes that are left, and whether the front of their first line was let go
-- because that line is too long.
use Rattle.std.specs.Prelude.{◌≡◌, ℕ, ◌+◌, ◌<◌, ◌≤◌, List, [], ◌∷◌, length, take, drop, slice_index, Bool, if◌then◌else◌}
use Rattle.text_defs.specs.Text.{lines_of}
use Rattle.piece_io.specs.Cuts.{cuts_of}
use Rattle.piece_io.specs.declared.line_cutter.Cut.{Cut}
use Rattle.piece_io.specs.declared.line_cutter.Cut.TheVariants.{TooLong}

-- the lines, the first of which is too long if the flag is set
abbrev pub over_first : Bool → List Cut → List Cut
over_first over [] = []
over_first over (cut ∷ cuts) = (if over then TooLong else cut) ∷ cuts

-- the lines of these bytes, the first of which is too long if the flag is set
abbrev pub pending : Bool → List ℕ → List Cut
pending over bytes = over_first over (cuts_of bytes)

-- the bytes are one line
pub record IsOneLine (bytes : List ℕ) : Type 0 where
  pub alone : lines_of bytes ≡ bytes ∷ []

-- the first line ends at a place, where an LF stands
pub record EndsLine (bytes : List ℕ) (at : ℕ) : Type 0 where
  pub within : at < length bytes
  pub lf : slice_index bytes at ≡ 10
  pub split : lines_of bytes ≡ take at bytes ∷ lines_of (drop (at + 1) bytes)

-- some of the bytes are left, and the first `seen` of these are known to have no LF
pub record IsCutAt (bytes : List ℕ) (start seen : ℕ) : Type 0 where
  pub start_within : start ≤ length bytes
  pub seen_within : seen ≤ length (drop start bytes)
  pub no_lf : IsOneLine (take seen (drop start bytes))
