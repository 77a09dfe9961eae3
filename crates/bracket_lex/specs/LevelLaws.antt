-- What levels count, and which mark more has a row, whatever the marks of a text, its end and the limit on nesting: both
-- go by the openers that are open there. That it is so is this project's own.
use Rattle.std.specs.Prelude.{◌≡◌, ℕ, ◌<◌, ◌≤◌, ◌⊎◌, List, [], ◌∷◌, ◌++◌, length, Some, None, slice_get}
use Rattle.text_pos.specs.declared.length.Pos.{Pos}
use Rattle.text_pos.specs.declared.kinds.Kinds.{Kinds}
use Rattle.pairing_defs.specs.declared.Role.TheVariants.{Opener, Closer}
use Rattle.pairing_defs.specs.declared.Mark.{Mark}
use Rattle.pairing_defs.specs.declared.Row.{Row}
use Rattle.pairing_defs.specs.Pairing.{paired}
use Rattle.bracket_lex.specs.RowLaws.{marks_of_rows}
use Rattle.bracket_lex.specs.PairLaws.{IsClosedOff}

-- the first number is below n, and each below the one before it
abbrev pub FallBelow : ℕ → List ℕ → Type 0
FallBelow n [] = Unit {0}
FallBelow n (first ∷ rest) = (first < n) × FallBelow first rest

abbrev pub IsAmong : ℕ → List ℕ → Type 0
IsAmong k [] = ⊥
IsAmong k (n ∷ numbers) = (n ≡ k) ⊎ IsAmong k numbers

-- so many numbers below n have a property: they can be listed, each once
pub record Counts (n : ℕ) (Holds : ℕ → Type 0) (count : ℕ) : Type 0 where
  pub numbers : List ℕ
  pub fall : FallBelow n numbers
  pub only : (k : ℕ) → IsAmong k numbers → Holds k
  pub all : (k : ℕ) → Holds k → IsAmong k numbers
  pub many : length numbers ≡ count

-- row k is an opener of the kind before row i, and isn't closed off there
pub record IsOpenAt (rows : List Row) (i k kind : ℕ) : Type 0 where
  pub opener : Row
  pub there : slice_get rows k ≡ Some opener
  pub role : opener.mark.role ≡ Opener kind
  pub before : k < i
  pub stays : IsClosedOff rows k i → ⊥

abbrev pub IsOpen : List Row → ℕ → ℕ → Type 0
IsOpen rows i k = (kind : ℕ) × IsOpenAt rows i k kind

-- an opener's level is how many openers are open before it, and its kind level how many of its kind
abbrev pub OpenersCountTheOpen : Type 0
OpenersCountTheOpen = (limit : ℕ) (end : Pos) (marks : List Mark) (i kind : ℕ) (row : Row) → slice_get (paired limit end marks) i ≡ Some row → row.mark.role ≡ Opener kind
    → Counts i (IsOpen (paired limit end marks) i) row.level × Counts i (λ k. IsOpenAt (paired limit end marks) i k kind) row.own

-- so is the level of a closer without partner, and its kind level is 0
abbrev pub LoneClosersCountTheOpen : Type 0
LoneClosersCountTheOpen = (limit : ℕ) (end : Pos) (marks : List Mark) (i : ℕ) (kinds : Kinds) (row : Row) → slice_get (paired limit end marks) i ≡ Some row
    → row.mark.role ≡ Closer kinds → row.partner ≡ None
    → Counts i (IsOpen (paired limit end marks) i) row.level × (row.own ≡ 0)

-- the marks that have rows
abbrev pub kept : ℕ → Pos → List Mark → List Mark
kept limit end marks = marks_of_rows (paired limit end marks)

-- so many openers are open behind the last row
abbrev pub LeavesOpen : List Row → ℕ → Type 0
LeavesOpen rows count = Counts (length rows) (IsOpen rows (length rows)) count

-- one more mark behind others has a row behind theirs, if it is a closer
abbrev pub OneMoreCloserHasARow : Type 0
OneMoreCloserHasARow = (limit : ℕ) (end : Pos) (marks : List Mark) (m : Mark) (kinds : Kinds) → m.role ≡ Closer kinds → kept limit end (marks ++ m ∷ []) ≡ kept limit end marks ++ m ∷ []

-- and if it is an opener, it has a row exactly where fewer openers are open than the limit
abbrev pub OneMoreOpenerHasARowBelowTheLimit : Type 0
OneMoreOpenerHasARowBelowTheLimit = (limit : ℕ) (end : Pos) (marks : List Mark) (m : Mark) (kind : ℕ) → m.role ≡ Opener kind
    → (open_rows : ℕ) × LeavesOpen (paired limit end marks) open_rows
    × (((open_rows < limit) × (kept limit end (marks ++ m ∷ []) ≡ kept limit end marks ++ m ∷ [])) ⊎ ((limit ≤ open_rows) × (kept limit end (marks ++ m ∷ []) ≡ kept limit end marks)))
