-- What can stand where a pattern matches: a set of characters without which there is no match, and how many visits
-- an attempt there takes at most to miss. It spares attempts, and changes no answer.
use Rattle.std.specs.Prelude.{◌≡◌, ℕ, Bool, ◌+◌, ◌<◌, ◌≤◌, List, [], ◌∷◌, ◌++◌, map, true, false, IfSome, Option}
use Rattle.std.specs.Prelude.{Some, None, slice_get}
use Rattle.char_sets.specs.Ranges.{in_set}
use Rattle.char_sets.specs.declared.char_set.CharRange.{CharRange}
use Rattle.pattern_defs.specs.declared.nodes.ListId.{ListId}
use Rattle.pattern_defs.specs.declared.nodes.PatNode.{PatNode}
use Rattle.pattern_defs.specs.declared.nodes.PatNode.TheVariants.{Ahead, Atomic, Repeat}
use Rattle.pattern_defs.specs.declared.outcomes.Flags.{Flags}
use Rattle.pattern_defs.specs.Patterns.{NodeLists, Tree, nodes_of}
use Rattle.pattern_defs.specs.Attempt.{Subject, Todo, Node, Miss, is_char, attempt}
use Rattle.onig_scan.specs.declared.front.Front.{Front}
use Rattle.onig_scan.specs.Runs.{EndsFrom}
use Rattle.onig_scan.specs.Bounds.{subject_of}

-- no character of the set stands at the place
pub record IsWithout (ranges : List CharRange) (text : List ℕ) (at : ℕ) : Type 0 where
  pub scalar : IfSome (slice_get text at) (λ c. c < 1_114_112)
  pub without : is_char (in_set ranges) (slice_get text at) ≡ false

-- at this place, where no character of the set stands
pub record IsBare (ranges : List CharRange) (text : List ℕ) (place at : ℕ) : Type 0 where
  pub here : at ≡ place
  pub bare : IsWithout ranges text place

-- a hit that took nothing, where there may be one
abbrev pub Stays : Bool → ℕ → ℕ → Type 0
Stays true place to = to ≡ place
Stays false place to = ⊥

-- What is still to match misses at a place where no character of the front stands, at so many visits. Where the front
-- says so, it may also hit and take nothing.
abbrev pub IsFrontOf : Subject → ℕ → List Todo → Front → ℕ → Type 0
IsFrontOf s place todo f cost = EndsFrom s (IsBare f.set s.text place) (Stays f.stays place) todo cost

-- the front, where it is known
abbrev pub IsBehind : Subject → ℕ → List Todo → Option Front → Type 0
IsBehind s place todo None = Unit {0}
IsBehind s place todo (Some f) = IsFrontOf s place todo f f.cost

-- nodes have such a front before anything that has the other, in any text
pub record IsFront (lists : NodeLists) (nodes : List PatNode) (behind : Option Front) (f : Front) (cost : ℕ) : Type 0
  where
    pub front : (text : List ℕ) (flags : Flags) (place : ℕ) (rest : List Todo) →
        IsBehind (subject_of lists text flags) place rest behind →
        IsFrontOf (subject_of lists text flags) place (map Node nodes ++ rest) f cost

-- lists of nodes that have such fronts, with the sum of the visits
abbrev pub AreFronts : NodeLists → List ListId → Option Front → Front → ℕ → Type 0
AreFronts lists [] behind f cost = Unit {0}
AreFronts lists (id ∷ ids) behind f cost =
    (first : ℕ) × (others : ℕ) × (first + others ≤ cost) × IsFront lists (nodes_of lists id) behind f first
    × AreFronts lists ids behind f others

-- each character of the one set is in the other
abbrev pub IsWithin : List CharRange → List CharRange → Type 0
IsWithin small large = (c : ℕ) → c < 1_114_112 → in_set small c ≡ true → in_set large c ≡ true

-- the front has the characters of the other, and may stay where the other may
pub record IsWider (small large : Front) : Type 0 where
  pub set : IsWithin small.set large.set
  pub stays : small.stays ≡ true → large.stays ≡ true

-- a list that is run by itself and has to hit, apart from the visit for its node
pub record IsFrontOfOwn (lists : NodeLists) (body : ListId) (behind : Option Front) (f : Front) (cost : ℕ) : Type 0
  where
    pub atomic : IsFront lists (Atomic body ∷ []) behind f (cost + 1)
    pub ahead : IsFront lists (Ahead body true ∷ []) behind f (cost + 1)

-- a repeat of a list, apart from the visit for its node
pub record IsFrontOfRepeat (lists : NodeLists) (body : ListId) (least : ℕ) (behind : Option Front) (f : Front)
    (cost : ℕ) :
    Type 0 where
  pub is : (most : Option ℕ) (greedy : Bool) → IsFront lists (Repeat body least most greedy ∷ []) behind f (cost + 1)

-- an attempt of the pattern misses wherever no character of the set stands, where so many visits are left
pub record IsFrontOfAll (tree : Tree) (ranges : List CharRange) (cost : ℕ) : Type 0 where
  pub misses : (text : List ℕ) (at : ℕ) (flags : Flags) (budget : ℕ) → IsWithout ranges text at → cost ≤ budget →
      (rest : ℕ) × (attempt tree text at flags budget ≡ Miss rest)
