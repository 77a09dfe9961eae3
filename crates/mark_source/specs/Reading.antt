-- How a reader stands in the lines: at a line, and at one of its marks.
use Rattle.std.specs.Prelude.{◌≡◌, ◌⊎◌, ℕ, ◌<◌, List, [], length, drop, map, slice_get, unwrap_or}
use Rattle.std.specs.Prelude.{Option, Some, None, Bool, false}
use Rattle.text_pos.specs.declared.length.Pos.{Pos}
use Rattle.pairing_defs.specs.declared.Mark.{Mark}
use Rattle.pairing_defs.specs.declared.LineMark.{LineMark}
use Rattle.pairing_defs.specs.Marks.{marks_of_lines}
use Rattle.bracket_marks.specs.MarkedLine.{MarkedLine}
use Rattle.mark_source.specs.Source.{Source, ahead, is_before, AreMarked}
use Rattle.mark_source.specs.declared.spot.Spot.{Spot}
use Rattle.mark_source.specs.declared.reader.MarkReader.TheInside.{Inside}

-- the marks of the lines from line n on
abbrev pub later : ℕ → List MarkedLine → List Mark
later n lines = marks_of_lines n (map (λ line. line.marks) (drop n lines))

-- the marks from a spot on
abbrev pub from_spot : List MarkedLine → Spot → List Mark
from_spot lines spot = drop spot.index (later spot.line lines)

abbrev pub marks_at : List MarkedLine → ℕ → List LineMark
marks_at lines n = (unwrap_or (slice_get lines n) (record { marks = []; length = 0 })).marks

-- a spot is a mark of a line, or the end of the lines
abbrev pub IsSpot : List MarkedLine → Spot → Type 0
IsSpot lines spot = ((spot.line < length lines) × (spot.index < length (marks_at lines spot.line)))
    ⊎ ((spot.line ≡ length lines) × (spot.index ≡ 0))

-- whether the next mark starts before a place
abbrev pub is_passed : Option Mark → Pos → Bool
is_passed None place = false
is_passed (Some m) place = is_before m.at place

abbrev pub source_of : Inside → Source
source_of r = record { lines = r.lines.now; place = r.place; given = r.given }

pub record IsReader (r : Inside) : Type 0 where
  pub marked : AreMarked r.lines.now
  pub spot : IsSpot r.lines.now r.spot
  pub stands : from_spot r.lines.now r.spot ≡ ahead (source_of r)
