-- Lists of patterns, each with what it belongs to, and where a search of one is decided.
use Rattle.std.specs.Prelude.{ℕ, ◌≤◌, nat_le, List, map, All, Bool, true, false, Option, Some, None, option_map}
use Rattle.std.specs.Rc.{rc_value}
use Rattle.pattern_defs.specs.Patterns.{Tree}
use Rattle.pattern_defs.specs.FirstMatch.{Pair, first_pair}
use Rattle.canonical_patterns.specs.Canonical.{canonical}
use Rattle.line_defs.specs.Search.{Choice, Sight}
use Rattle.line_search.specs.declared.choices.Owned.{Owned}
use Rattle.line_search.specs.Finds.{owner_of, IsBelow}

abbrev pub tree_of_owned : Owned → Tree
tree_of_owned one = rc_value one.pattern

-- patterns that differ only in how their sets are kept are one and the same
abbrev pub choice_of_owned : Owned → Choice
choice_of_owned one = record { of = owner_of one.of; tree = canonical (tree_of_owned one) }

-- no pattern has more groups
abbrev pub HaveRoom : (groups : ℕ) → List Choice → Type 0
HaveRoom groups choices = All (λ choice. choice.tree.groups ≤ groups) choices

-- each pattern is of the end, or of one of so many rules
abbrev pub HaveOwners : (rules : ℕ) → List Choice → Type 0
HaveOwners rules choices = All (λ choice. IsBelow rules choice.of) choices

pub record AreOf (rules groups : ℕ) (choices : List Choice) : Type 0 where
  pub room : HaveRoom groups choices
  pub owners : HaveOwners rules choices

-- the pair that decides a search
abbrev pub first_of : Sight → List Choice → Option Pair
first_of sight choices =
    first_pair (map (λ choice. choice.tree) choices) sight.text sight.place sight.flags sight.budget

-- the place where a search is decided, by a match or a spent attempt
abbrev pub first_place : Sight → List Choice → Option ℕ
first_place sight choices = option_map (λ pair. pair.place) (first_of sight choices)

-- whether what is decided at a place comes before what is decided at the other, of a list behind
abbrev pub is_before : (place other : Option ℕ) → Bool
is_before (Some place) (Some other) = nat_le place other
is_before (Some place) None = true
is_before None other = false
