-- What an object of the outside tells of itself, and its count of faults. The rules are this project's own.
use Rattle.std.specs.Prelude.{◌≡◌, ℕ, ◌+◌, ◌-◌, ◌^◌, ◌≤◌, ◌↔◌, List, [], ◌++◌, length, take, drop, min, Option, Some, None, option_map}

-- what is told of a file: nothing, that no file has the name, or its bytes
pub data Told : Type 0 where
  Untold : Told
  Missing : Told
  Holds : List ℕ → Told

-- the least that a count of faults is after one more: it stays at the largest number of 64 bits
abbrev pub risen : ℕ → ℕ
risen before = min (before + 1) (2 ^ 64 - 1)

-- n of the bytes that were left, which are told or not, have come into the front of a buffer; none exactly
-- at the end
abbrev pub GivesFront : Option (List ℕ) → Option (List ℕ) → ℕ → List ℕ → Type 0
GivesFront None after n into = after ≡ None
GivesFront (Some bytes) after n into =
    (n ≤ length bytes) × (take n into ≡ take n bytes) × (after ≡ Some (drop n bytes)) × ((n ≡ 0) ↔ (bytes ≡ []))

-- n bytes from a place of a file have come into the front of a buffer; none exactly at the end
abbrev pub GivesFrom : Told → ℕ → ℕ → List ℕ → Type 0
GivesFrom Untold from n into = Unit {0}
GivesFrom Missing from n into = ⊥
GivesFrom (Holds bytes) from n into =
    (n ≤ length (drop from bytes)) × (take n into ≡ take n (drop from bytes)) × ((n ≡ 0) ↔ (length bytes ≤ from))

-- these bytes were added to what is held, which is told or not
abbrev pub appended : Option (List ℕ) → List ℕ → Option (List ℕ)
appended held bytes = option_map (λ before. before ++ bytes) held
