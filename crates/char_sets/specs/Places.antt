-- Where among ranges that rise a code stands.
use Rattle.std.specs.Prelude.{◌≡◌, ◌≤◌, ◌<◌, ◌+◌, ℕ, List, length, drop, slice_index_or}
use Rattle.char_sets.specs.Ranges.{in_set}
use Rattle.char_sets.specs.declared.char_set.CharRange.{CharRange}

-- the range at this place is the first that ends at the code or after it
pub record IsReached (ranges : List CharRange) (place code : ℕ) : Type 0 where
  pub within : place ≤ length ranges
  pub before : (c : ℕ) → code ≤ c → in_set ranges c ≡ in_set (drop place ranges) c
  pub reaches : (d : CharRange) → place < length ranges → code ≤ (slice_index_or ranges place d).last

-- the code stands at most just behind the range at this place
abbrev pub IsNear : List CharRange → ℕ → ℕ → Type 0
IsNear ranges place code =
    place < length ranges → code ≤ (slice_index_or ranges place (record { first = 0; last = 0 })).last + 1
