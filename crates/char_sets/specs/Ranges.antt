-- Which characters a list of ranges has, by their codes.
use Rattle.std.specs.Prelude.{◌≡◌, ◌<◌, ◌+◌, ◌-◌, ℕ, Bool, true, false, ◌&&◌, nat_le, nat_lt, List, [], ◌∷◌, ◌++◌, if◌then◌else◌}
use Rattle.std.specs.List.{list_any}
use Rattle.std.specs.Int.{bit_at}
use Rattle.char_sets.specs.declared.char_set.CharRange.{CharRange}

abbrev pub in_range : ℕ → CharRange → Bool
in_range c r = nat_le r.first c && nat_le c r.last

-- the character with this code is in one of the ranges
abbrev pub in_set : List CharRange → ℕ → Bool
in_set ranges c = list_any (in_range c) ranges

-- the ranges have just the characters that pass the test
abbrev pub IsSetOf : List CharRange → (ℕ → Bool) → Type 0
IsSetOf ranges p = (c : ℕ) → c < 1_114_112 → in_set ranges c ≡ p c

-- the range begins at the code or after it, has a member, and ends within Unicode
abbrev pub is_range_from : ℕ → CharRange → Bool
is_range_from n r = nat_le n r.first && (nat_le r.first r.last && nat_le r.last 1_114_111)

-- each is a range, the first from n on and each other after the one before
unfoldable pub rises : ℕ → List CharRange → Bool
rises n [] = true
rises n (r ∷ rs) = is_range_from n r && rises (r.last + 1) rs

-- 1 for true
abbrev pub bit : Bool → ℕ
bit true = 1
bit false = 0

-- the 64 bits say which of the 64 codes from the first on are in the ranges
abbrev pub AreBitsOf : ℕ → List CharRange → ℕ → Type 0
AreBitsOf word ranges first = (k : ℕ) → k < 64 → bit_at word k ≡ bit (in_set ranges (first + k))

-- the ranges with one more at the end, of the codes from `start` on and below `at`, where there are any
unfoldable pub closed : List CharRange → ℕ → ℕ → List CharRange
closed ranges start at = if nat_lt start at then ranges ++ record { first = start; last = at - 1 } ∷ [] else ranges
