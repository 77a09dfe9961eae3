-- What can stand before a place where a pattern matches: a set of characters, and whether the text may begin there. It
-- spares attempts, and changes no answer.
use Rattle.std.specs.Prelude.{◌≡◌, ℕ, Bool, ◌+◌, ◌<◌, ◌≤◌, List, [], ◌∷◌, ◌++◌, map, true, false, IfSome, Option}
use Rattle.std.specs.Prelude.{Some, None, slice_get, ◌&&◌}
use Rattle.char_sets.specs.Named.{is_word}
use Rattle.char_sets.specs.Ranges.{in_set}
use Rattle.char_sets.specs.declared.char_set.CharRange.{CharRange}
use Rattle.pattern_defs.specs.declared.nodes.ListId.{ListId}
use Rattle.pattern_defs.specs.declared.nodes.PatNode.{PatNode}
use Rattle.pattern_defs.specs.declared.outcomes.Flags.{Flags}
use Rattle.pattern_defs.specs.Patterns.{NodeLists, Tree, nodes_of}
use Rattle.pattern_defs.specs.Attempt.{Todo, Node, Miss, is_char, char_before, attempt}
use Rattle.onig_scan.specs.declared.front.Front.{Front}
use Rattle.onig_scan.specs.Runs.{EndsFrom, Nowhere}
use Rattle.onig_scan.specs.Bounds.{subject_of}

-- a character of the set, or none where the text may begin
abbrev pub may_precede : List CharRange → Bool → Option ℕ → Bool
may_precede ranges begins None = begins
may_precede ranges begins (Some c) = in_set ranges c

-- between two word characters
abbrev pub is_inside : List ℕ → ℕ → Bool
is_inside text at = is_char is_word (char_before text at) && is_char is_word (slice_get text at)

-- what stands before the place isn't among these; where so asked, the place is between two word characters
pub record IsUnfit (inside : Bool) (ranges : List CharRange) (begins : Bool) (text : List ℕ) (at : ℕ) : Type 0 where
  pub scalar : IfSome (char_before text at) (λ c. c < 1_114_112)
  pub unfit : may_precede ranges begins (char_before text at) ≡ false
  pub asked : inside ≡ true → is_inside text at ≡ true

-- nodes miss at such places, at so many visits at most
pub record IsPast (inside : Bool) (lists : NodeLists) (nodes : List PatNode) (f : Front) (cost : ℕ) : Type 0 where
  pub past : (text : List ℕ) (flags : Flags) (rest : List Todo) →
      EndsFrom (subject_of lists text flags) (IsUnfit inside f.set f.stays text) Nowhere (map Node nodes ++ rest) cost

-- lists of nodes that do, with at least the sum of these visits
abbrev pub ArePasts : Bool → NodeLists → List ListId → Front → ℕ → Type 0
ArePasts inside lists [] f cost = Unit {0}
ArePasts inside lists (id ∷ ids) f cost =
    (first : ℕ) × (others : ℕ) × (first + others ≤ cost) × IsPast inside lists (nodes_of lists id) f first
    × ArePasts inside lists ids f others

-- whatever nodes miss at such places, with this node before them they miss there too, at so many visits more at most
pub record IsPassing (lists : NodeLists) (node : PatNode) (visits : ℕ) : Type 0 where
  pub passes : (inside : Bool) (nodes : List PatNode) (f : Front) (cost : ℕ) → IsPast inside lists nodes f cost →
      IsPast inside lists (node ∷ nodes) f (cost + visits)

-- an attempt of the pattern misses at such places, where at least so many visits are left
pub record IsPastOfAll (inside : Bool) (tree : Tree) (f : Front) : Type 0 where
  pub misses : (text : List ℕ) (at : ℕ) (flags : Flags) (budget : ℕ) → IsUnfit inside f.set f.stays text at →
      f.cost ≤ budget → (rest : ℕ) × (attempt tree text at flags budget ≡ Miss rest)
