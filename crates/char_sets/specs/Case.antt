-- Letters in both cases. Case is that of ASCII alone.
use Rattle.std.specs.Prelude.{ℕ, ◌+◌, ◌-◌, Bool, ◌||◌, ◌&&◌, not, nat_le, List, if◌then◌else◌}
use Rattle.char_sets.specs.Ranges.{in_set}
use Rattle.char_sets.specs.declared.char_set.CharRange.{CharRange}

-- the code lies between two others, or is one of them
abbrev pub is_from_to : ℕ → ℕ → ℕ → Bool
is_from_to first last c = nat_le first c && nat_le c last

-- `a` for `A` and `A` for `a`, and so for each ASCII letter; any other character itself
abbrev pub other_case : ℕ → ℕ
other_case c = if is_from_to 65 90 c then c + 32 else if is_from_to 97 122 c then c - 32 else c

-- the character, or its other ASCII case, is in one of the ranges
abbrev pub in_either_case : List CharRange → ℕ → Bool
in_either_case ranges c = in_set ranges c || in_set ranges (other_case c)

-- the character isn't in the ranges, and its other ASCII case is
abbrev pub is_missing : List CharRange → ℕ → Bool
is_missing ranges c = in_set ranges (other_case c) && not (in_set ranges c)
