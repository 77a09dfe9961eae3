-- Which patterns of a scanner may match at a place, told by the character that stands there and by the one before. It
-- spares attempts, and changes no answer.
use Rattle.std.specs.Prelude.{◌≡◌, ℕ, ◌+◌, ◌*◌, ◌/◌, ◌%◌, ◌<◌, ◌≤◌, ◌⊎◌, Bool, true, false, cond, nat_lt}
use Rattle.std.specs.Prelude.{if◌then◌else◌, List, drop, length, Option, Some, None, IfSome, IsSomeAnd, slice_get}
use Rattle.std.specs.Prelude.{slice_index}
use Rattle.std.specs.Int.{bit_at}
use Rattle.pattern_defs.specs.declared.outcomes.Flags.{Flags}
use Rattle.pattern_defs.specs.declared.outcomes.Found.{Found}
use Rattle.pattern_defs.specs.Patterns.{Tree}
use Rattle.pattern_defs.specs.Attempt.{Miss, attempt, char_before, is_char, capture_of}
use Rattle.char_sets.specs.Ranges.{in_set}
use Rattle.char_sets.specs.declared.char_set.CharRange.{CharRange}
use Rattle.pattern_defs.specs.FirstMatch.{Pair, pairs_at, first_of, found_at, captures_at}
use Rattle.onig_match.specs.Works.{Worked, IsPart}
use Rattle.onig_scan.specs.declared.rows.TheConstants.{CLASSES}
use Rattle.onig_scan.specs.Answers.{IsAmong, IfAt}
use Rattle.onig_scan.specs.Pasts.{may_precede, is_inside}

-- the characters of ASCII, all others together, and the text's end
abbrev pub class_of : Option ℕ → ℕ
class_of (Some c) = if nat_lt c 128 then c else 128
class_of None = 129

-- A row for each of these at a place, and one for each of them before it, where the text's beginning stands for its
-- end; between two word characters other rows.
abbrev pub past_row : List ℕ → ℕ → ℕ
past_row text at = CLASSES + class_of (char_before text at) + cond (is_inside text at) CLASSES 0

-- the row is one of a place's
abbrev pub HasRow : List ℕ → ℕ → ℕ → Type 0
HasRow text at row = (class_of (slice_get text at) ≡ row) ⊎ (past_row text at ≡ row)

abbrev pub IsScalarAt : List ℕ → ℕ → Type 0
IsScalarAt text at = IfSome (slice_get text at) (λ c. c < 1_114_112)

-- the characters of a place and before it are in Unicode
pub record AreScalars (text : List ℕ) (at : ℕ) : Type 0 where
  pub here : IsScalarAt text at
  pub past : IfSome (char_before text at) (λ c. c < 1_114_112)

-- no character of this kind is in the set
pub record HasNone (ranges : List CharRange) (class : ℕ) : Type 0 where
  pub none : (o : Option ℕ) → IfSome o (λ c. c < 1_114_112) → class_of o ≡ class → is_char (in_set ranges) o ≡ false

-- an attempt of the pattern misses wherever such a character stands, where so many visits are left
pub record IsSparedAt (tree : Tree) (class cost : ℕ) : Type 0 where
  pub misses : (text : List ℕ) (at : ℕ) (flags : Flags) (budget : ℕ) → IsScalarAt text at →
      class_of (slice_get text at) ≡ class → cost ≤ budget → (rest : ℕ)
      × (attempt tree text at flags budget ≡ Miss rest)

-- no character of this kind is in the set, and where it is the text's beginning the text doesn't begin
pub record HasNoneBefore (ranges : List CharRange) (begins : Bool) (class : ℕ) : Type 0 where
  pub none : (o : Option ℕ) → IfSome o (λ c. c < 1_114_112) → class_of o ≡ class → may_precede ranges begins o ≡ false

-- the same wherever such a character stands before; where so asked, between two word characters
pub record IsSparedPast (inside : Bool) (tree : Tree) (class cost : ℕ) : Type 0 where
  pub misses : (text : List ℕ) (at : ℕ) (flags : Flags) (budget : ℕ) → AreScalars text at →
      class_of (char_before text at) ≡ class → (inside ≡ true → is_inside text at ≡ true) → cost ≤ budget
      → (rest : ℕ) × (attempt tree text at flags budget ≡ Miss rest)

-- the same at the places of a row
pub record IsSpared (tree : Tree) (row cost : ℕ) : Type 0 where
  pub misses : (text : List ℕ) (at : ℕ) (flags : Flags) (budget : ℕ) → AreScalars text at → HasRow text at row →
      cost ≤ budget → (rest : ℕ) × (attempt tree text at flags budget ≡ Miss rest)

-- an attempt at this place misses
pub record IsMissed (tree : Tree) (text : List ℕ) (at cost : ℕ) : Type 0 where
  pub misses : (flags : Flags) (budget : ℕ) → cost ≤ budget → (rest : ℕ)
      × (attempt tree text at flags budget ≡ Miss rest)

-- the bits that aren't set are of patterns that are spared; the lowest is that of the pattern `first`
pub record IsWord (trees : List Tree) (row first cost word : ℕ) : Type 0 where
  pub spares : (j : ℕ) → j < 64 → bit_at word j ≡ 0
      → IfSome (slice_get trees (first + j)) (λ tree. IsSpared tree row cost)

-- the bits that aren't set are of patterns that miss at this place
pub record IsWordHere (trees : List Tree) (text : List ℕ) (at first cost word : ℕ) : Type 0 where
  pub spares : (j : ℕ) → j < 64 → bit_at word j ≡ 0
      → IfSome (slice_get trees (first + j)) (λ tree. IsMissed tree text at cost)

-- the words of each row, row by row
pub record AreRows (trees : List Tree) (words cost : ℕ) (rows : List ℕ) : Type 0 where
  pub is : (k : ℕ) → k < length rows → IsWord trees (k / words) (64 * (k % words)) cost (slice_index rows k)

-- the words of one row, which begin at a place of all words
pub record IsRow (trees : List Tree) (row cost : ℕ) (rows : List ℕ) (start words : ℕ) : Type 0 where
  pub is : (k : ℕ) → k < words → IsWord trees row (64 * k) cost (slice_index rows (start + k))

-- the first of the patterns from a number on whose attempt at a place isn't a miss
abbrev pub first_from : List Tree → ℕ → ℕ → List ℕ → Flags → ℕ → Option Pair
first_from trees first at text flags budget = first_of (pairs_at first (drop first trees) at) text flags budget

-- what a search at one place answers, where it begins with the pattern of a number
pub record IsDecided (trees : List Tree) (first at : ℕ) (text : List ℕ) (flags : Flags) (old new : Worked)
    (result : Found) :
    Type 0 where
  pub pair : Pair
  pub decides : first_from trees first at text flags old.budget ≡ Some pair
  pub found : result ≡ found_at text flags old.budget (first_from trees first at text flags old.budget)
  pub work : new ≡ record old {
    hit = captures_at text flags old.budget (first_from trees first at text flags old.budget) old.hit;
  }
  pub names : IsAmong (length trees) at at result
  pub groups : IfAt result (λ index. IsSomeAnd (slice_get trees index) (λ tree. length new.hit ≡ tree.groups + 1))
  pub captures : IfAt result (λ _. (n : ℕ) → IfSome (capture_of new.hit n) (IsPart (length text)))
  pub whole : IfAt result (λ _. IsSomeAnd (capture_of new.hit 0) (λ place. place.from ≡ at))

-- no pattern between two numbers decides, and nothing changes
pub record GoesOn (trees : List Tree) (first next at : ℕ) (text : List ℕ) (flags : Flags) (old new : Worked) : Type 0
  where
    pub missed : first_from trees next at text flags old.budget ≡ first_from trees first at text flags old.budget
    pub same : new ≡ old

-- no pattern decides at a place, and nothing changes
pub record IsPassed (trees : List Tree) (at : ℕ) (text : List ℕ) (flags : Flags) (old new : Worked) : Type 0 where
  pub missed : first_of (pairs_at 0 trees at) text flags old.budget ≡ None
  pub same : new ≡ old
