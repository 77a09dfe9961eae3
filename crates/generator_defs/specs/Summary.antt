-- What is told of the rows of a text. It is this project's own.
use Rattle.std.specs.Prelude.{ℕ, ◌+◌, ◌==◌, max, Bool, List, [], ◌∷◌, length, count_by}
use Rattle.pairing_defs.specs.declared.Row.{Row}
use Rattle.pairing_defs.specs.declared.TheConstants.{COLOURS}
use Rattle.generator_defs.specs.declared.Made.{Made}

-- whether a row has the colour of those without partner
abbrev pub is_bad : Row → Bool
is_bad row = row.colour == COLOURS

-- one more than the greatest level, and 0 without rows
abbrev pub deepest : List Row → ℕ
deepest [] = 0
deepest (row ∷ rows) = max (row.level + 1) (deepest rows)

-- what is told of these rows, in a text of so many lines
unfoldable pub summary : ℕ → List Row → Made
summary lines rows = record { lines = lines; rows = length rows; bad = count_by is_bad rows; deepest = deepest rows }
