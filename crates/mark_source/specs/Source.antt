-- What a source of marks is: lines with their marks, the place that was reached, and how many marks it gave.
use Rattle.std.specs.Prelude.{ℕ, ◌+◌, ◌-◌, ◌^◌, ◌<◌, ◌≤◌, ◌==◌, ◌&&◌, ◌||◌, not, min, nat_lt, List, [], ◌∷◌}
use Rattle.std.specs.Prelude.{filter, Bool, Option, Some, None}
use Rattle.text_pos.specs.declared.length.Pos.{Pos}
use Rattle.pairing_defs.specs.declared.LineMark.{LineMark}
use Rattle.pairing_defs.specs.declared.Mark.{Mark}
use Rattle.pairing_defs.specs.declared.Role.{Role}
use Rattle.pairing_defs.specs.declared.Role.TheVariants.{Opener, Closer}
use Rattle.bracket_marks.specs.MarkedLine.{MarkedLine, marks_in}

pub record Source : Type 0 where
  pub lines : List MarkedLine
  pub place : Pos
  pub given : ℕ

-- ---- the marks ahead

-- whether a place lies before another
abbrev pub is_before : Pos → Pos → Bool
is_before p q = nat_lt p.line q.line || (p.line == q.line && nat_lt p.col q.col)

-- the marks that start at or behind a place, in order
abbrev pub marks_from : Pos → List Mark → List Mark
marks_from place marks = filter (λ m. not (is_before m.at place)) marks

abbrev pub ahead : Source → List Mark
ahead s = marks_from s.place (marks_in s.lines)

abbrev pub first : List Mark → Option Mark
first [] = None
first (m ∷ ms) = Some m

abbrev pub start_of : Option Mark → Option Pos
start_of None = None
start_of (Some m) = Some m.at

-- ---- going on

abbrev pub at_place : Pos → Source → Source
at_place place s = record s { place = place }

abbrev pub end_of : Mark → Pos
end_of m = record { line = m.at.line; col = m.to }

-- a count after one more: it stays at the largest number of 64 bits
abbrev pub risen : ℕ → ℕ
risen count = min (count + 1) (2 ^ 64 - 1)

-- behind the next mark, where there is one
abbrev pub behind : Option Mark → Source → Source
behind None s = s
behind (Some m) s = record s { place = end_of m; given = risen s.given }

abbrev pub steps_for : Option Mark → ℕ
steps_for None = 0
steps_for (Some m) = 1

-- ---- which lines a source may have

abbrev pub IsRole : Role → Type 0
IsRole (Opener kind) = kind < 64
IsRole (Closer kinds) = Unit {0}

-- the marks of a line stand in order from a column on, each with some columns, and end in the line
abbrev pub RiseIn : (from end : ℕ) → List LineMark → Type 0
RiseIn from end [] = from ≤ end
RiseIn from end (m ∷ ms) = (from ≤ m.from) × (m.from < m.to) × IsRole m.role × RiseIn m.to end ms

abbrev pub IsMarked : MarkedLine → Type 0
IsMarked line = RiseIn 0 line.length line.marks

abbrev pub AreMarked : List MarkedLine → Type 0
AreMarked [] = Unit {0}
AreMarked (line ∷ lines) = IsMarked line × AreMarked lines
