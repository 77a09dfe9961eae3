-- Which marks of a text have rows, whatever the marks, the text's end and the limit on nesting. That it is so is this
-- project's own.
use Rattle.std.specs.Prelude.{◌≡◌, ℕ, ◌≤◌, ◌⊎◌, Bool, true, false, List, [], ◌∷◌, length, map, filter}
use Rattle.text_pos.specs.declared.length.Pos.{Pos}
use Rattle.pairing_defs.specs.declared.Role.{Role}
use Rattle.pairing_defs.specs.declared.Role.TheVariants.{Opener, Closer}
use Rattle.pairing_defs.specs.declared.Mark.{Mark}
use Rattle.pairing_defs.specs.declared.Row.{Row}
use Rattle.pairing_defs.specs.Pairing.{paired}

abbrev pub opens_by : Role → Bool
opens_by (Opener kind) = true
opens_by (Closer kinds) = false

abbrev pub closes_by : Role → Bool
closes_by (Opener kind) = false
closes_by (Closer kinds) = true

-- whether a mark is an opener, or a closer
abbrev pub opens : Mark → Bool
opens m = opens_by m.role

abbrev pub closes : Mark → Bool
closes m = closes_by m.role

abbrev pub marks_of_rows : List Row → List Mark
marks_of_rows rows = map (λ r. r.mark) rows

-- the marks stand in the same order among others
abbrev pub IsPartOf : List Mark → List Mark → Type 0
IsPartOf [] marks = Unit {0}
IsPartOf (first ∷ rest) [] = ⊥
IsPartOf (first ∷ rest) (mark ∷ marks) = ((mark ≡ first) × IsPartOf rest marks) ⊎ IsPartOf (first ∷ rest) marks

-- the rows' marks are marks of the text, each once and in order
abbrev pub RowsAreMarksInOrder : Type 0
RowsAreMarksInOrder = (limit : ℕ) (end : Pos) (marks : List Mark) → IsPartOf (marks_of_rows (paired limit end marks)) marks

-- each closer has a row
abbrev pub ClosersHaveRows : Type 0
ClosersHaveRows = (limit : ℕ) (end : Pos) (marks : List Mark) → filter closes (marks_of_rows (paired limit end marks)) ≡ filter closes marks

-- and so has each opener, where there are no more than the limit
abbrev pub MarksWithinTheLimitHaveRows : Type 0
MarksWithinTheLimitHaveRows = (limit : ℕ) (end : Pos) (marks : List Mark) → length (filter opens marks) ≤ limit → marks_of_rows (paired limit end marks) ≡ marks
