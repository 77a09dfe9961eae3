-- How many visits nodes take at most, whatever the text: where they hold no repeat of an open number.
use Rattle.std.specs.Prelude.{◌≡◌, ℕ, ◌+◌, ◌≤◌, Bool, List, [], ◌∷◌, ◌++◌, map, Some, nat_lt}
use Rattle.pattern_defs.specs.declared.nodes.ListId.{ListId}
use Rattle.pattern_defs.specs.declared.nodes.Arm.{Arm}
use Rattle.pattern_defs.specs.declared.nodes.PatNode.{PatNode}
use Rattle.pattern_defs.specs.declared.outcomes.Flags.{Flags}
use Rattle.pattern_defs.specs.Patterns.{NodeLists, nodes_of}
use Rattle.pattern_defs.specs.Attempt.{Subject, Todo, Node, Again, before, repeat_ways, is_greatest}
use Rattle.onig_scan.specs.Runs.{EndsFrom, AllEnd, Anywhere}

abbrev pub subject_of : NodeLists → List ℕ → Flags → Subject
subject_of lists text flags = record { lists = lists; text = text; flags = flags }

-- what is still to match takes so many visits at most
abbrev pub IsBoundOf : Subject → List Todo → ℕ → Type 0
IsBoundOf s todo cost = EndsFrom s Anywhere Anywhere todo cost

-- nodes take so many with what stands behind them, which takes so many by itself
pub record IsBound (lists : NodeLists) (nodes : List PatNode) (behind cost : ℕ) : Type 0 where
  pub bound : (text : List ℕ) (flags : Flags) (rest : List Todo) → IsBoundOf (subject_of lists text flags) rest behind →
      IsBoundOf (subject_of lists text flags) (map Node nodes ++ rest) cost

-- a repeat of a list that may be done so many times yet, at its beginning and behind an iteration
pub record IsBoundOfTimes (lists : NodeLists) (body : ListId) (times behind cost : ℕ) : Type 0 where
  pub ways : (text : List ℕ) (flags : Flags) (rest : List Todo) → IsBoundOf (subject_of lists text flags) rest behind →
      (least most count at : ℕ) (stuck greedy : Bool) → least ≤ most → count + times ≡ most →
      AllEnd (subject_of lists text flags) Anywhere Anywhere (repeat_ways stuck (nat_lt count least) (is_greatest (Some most) count)
      greedy (before lists body (Again body least (Some most) greedy (count + 1) at ∷ rest)) rest) cost

-- lists of nodes that are tried one after the other, with the sum of their visits
abbrev pub AreBounds : NodeLists → List ListId → ℕ → ℕ → Type 0
AreBounds lists [] behind cost = Unit {0}
AreBounds lists (id ∷ ids) behind cost =
    (first : ℕ) × (others : ℕ) × (first + others ≤ cost) × IsBound lists (nodes_of lists id) behind first
    × AreBounds lists ids behind others

-- the same of the arms of a lookbehind, each of which is a run of its own
abbrev pub AreArmBounds : NodeLists → List Arm → ℕ → Type 0
AreArmBounds lists [] cost = Unit {0}
AreArmBounds lists (arm ∷ arms) cost =
    (first : ℕ) × (others : ℕ) × (first + others ≤ cost) × IsBound lists (nodes_of lists arm.body) 1 first
    × AreArmBounds lists arms others
