-- A search over several patterns: of all pairs of a place and a pattern, by place and then by the pattern's
-- number, the first whose attempt isn't a miss decides. As vscode-textmate has it of Oniguruma's scanner.
use Rattle.std.specs.Prelude.{ℕ, zero, suc, ◌+◌, ◌-◌, List, [], ◌∷◌, length, Bool, true, false, Option, Some, None, find}
use Rattle.std.specs.List.{flat_map}
use Rattle.pattern_defs.specs.declared.outcomes.Flags.{Flags}
use Rattle.pattern_defs.specs.declared.outcomes.Found.{Found}
use Rattle.pattern_defs.specs.declared.outcomes.Found.TheVariants as found
use Rattle.pattern_defs.specs.Patterns.{Tree}
use Rattle.pattern_defs.specs.Attempt.{Ran, Hit, Miss, Spent, Captures, attempt, last_hit_captures}

-- a pattern with its number, tried at a place
pub record Pair : Type 0 where
  pub place : ℕ
  pub index : ℕ
  pub tree : Tree

-- the pairs of one place, whose patterns count from a number
abbrev pub pairs_at : ℕ → List Tree → ℕ → List Pair
pairs_at index [] place = []
pairs_at index (tree ∷ trees) place = record { place = place; index = index; tree = tree } ∷ pairs_at (index + 1) trees place

-- so many places, from one on
abbrev pub places : ℕ → ℕ → List ℕ
places from zero = []
places from (suc count) = from ∷ places (from + 1) count

-- all pairs from a place to the text's end, in the order in which they are tried
abbrev pub pairs : List Tree → List ℕ → ℕ → List Pair
pairs trees text from = flat_map (pairs_at 0 trees) (places from (length text + 1 - from))

abbrev pub tried : List ℕ → Flags → ℕ → Pair → Ran
tried text flags budget pair = attempt pair.tree text pair.place flags budget

abbrev pub is_no_miss : Ran → Bool
is_no_miss (Miss left) = false
is_no_miss _ = true

-- the first of some pairs whose attempt isn't a miss
abbrev pub first_of : List Pair → List ℕ → Flags → ℕ → Option Pair
first_of pairs text flags budget = find (λ pair. is_no_miss (tried text flags budget pair)) pairs

abbrev pub first_pair : List Tree → List ℕ → ℕ → Flags → ℕ → Option Pair
first_pair trees text from flags budget = first_of (pairs trees text from) text flags budget

-- what the search answers, and the captures of the last hit behind it
abbrev pub answer_by : Pair → Ran → Found
answer_by pair (Hit at captures left) = found.At pair.index
answer_by pair (Miss left) = found.Nowhere
answer_by pair Spent = found.Spent pair.index pair.place

abbrev pub found_at : List ℕ → Flags → ℕ → Option Pair → Found
found_at text flags budget None = found.Nowhere
found_at text flags budget (Some pair) = answer_by pair (tried text flags budget pair)

abbrev pub first_match : List Tree → List ℕ → ℕ → Flags → ℕ → Found
first_match trees text from flags budget = found_at text flags budget (first_pair trees text from flags budget)

abbrev pub captures_at : List ℕ → Flags → ℕ → Option Pair → Captures → Captures
captures_at text flags budget None last = last
captures_at text flags budget (Some pair) last = last_hit_captures (tried text flags budget pair) last

-- the captures of the last hit, after a search
abbrev pub captures_after : List Tree → List ℕ → ℕ → Flags → ℕ → Captures → Captures
captures_after trees text from flags budget last = captures_at text flags budget (first_pair trees text from flags budget) last
