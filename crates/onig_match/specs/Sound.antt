-- What holds of the stack of an attempt at each step.
use Rattle.std.specs.Prelude.{◌≡◌, ℕ, ◌+◌, ◌*◌, ◌^◌, ◌<◌, ◌≤◌, List, [], ◌∷◌, length, map, drop, filter, nat_le, Bool}
use Rattle.std.specs.Prelude.{true, false, Option, Some, None, slice_get, slice_set}
use Rattle.char_sets.specs.Ranges.{in_set}
use Rattle.char_sets.specs.declared.char_set.CharRange.{CharRange}
use Rattle.pattern_defs.specs.declared.nodes.ListId.{ListId}
use Rattle.pattern_defs.specs.declared.nodes.Arm.{Arm}
use Rattle.pattern_defs.specs.declared.nodes.PatNode.{PatNode}
use Rattle.pattern_defs.specs.declared.nodes.PatNode.TheVariants.{One, Group}
use Rattle.pattern_defs.specs.declared.outcomes.Place.{Place}
use Rattle.pattern_defs.specs.Patterns.{NodeLists, Tree, nodes_of}
use Rattle.pattern_defs.specs.Attempt.{Subject, Captures, Todo, Ran, Miss, Spent, before, is_char}
use Rattle.pattern_defs.specs.Attempt.{is_greatest, tries}
use Rattle.onig_match.specs.declared.cells.Rest.{Rest}
use Rattle.onig_match.specs.declared.cells.Cell.{Cell}
use Rattle.onig_match.specs.declared.cells.Cell.TheVariants.{Nodes, GroupEnd, Iteration}
use Rattle.onig_match.specs.declared.cells.Front.{Front}
use Rattle.onig_match.specs.declared.cells.Front.TheVariants.{AtEnd, AtNode, AtGroupEnd, AtIteration}
use Rattle.onig_match.specs.declared.entries.Change.{Change}
use Rattle.onig_match.specs.declared.entries.Resume.{Resume}
use Rattle.onig_match.specs.declared.entries.Resume.TheVariants.{Other, Alternatives, AfterAhead, AfterBehind}
use Rattle.onig_match.specs.declared.entries.Resume.TheVariants.{AfterAtomic, GiveBack}
use Rattle.onig_match.specs.declared.entries.Entry.{Entry}
use Rattle.onig_match.specs.declared.entries.Passed.{Passed}
use Rattle.onig_match.specs.declared.entries.Step.{Step}
use Rattle.onig_match.specs.declared.entries.Step.TheVariants.{Go, Found, Failed}
use Rattle.onig_match.specs.declared.entries.Visited.{Visited}
use Rattle.onig_match.specs.declared.area.Area.{Area}
use Rattle.onig_match.specs.declared.searched.Searched.{Searched}
use Rattle.onig_match.specs.Goes.{goes}
use Rattle.onig_match.specs.Machine.{subject, resumed, means, carried, todo_of, rank}

-- the rest of a list of the pattern, before one of the first cells
pub record IsRest (tree : Tree) (cells : ℕ) (rest : Rest) : Type 0 where
  pub list : rest.list.0 < length tree.lists
  pub next : rest.next ≤ cells

-- A cell above so many cells. An iteration's count is at most the number of its cell.
abbrev pub IsCell : Tree → ℕ → ℕ → Cell → Type 0
IsCell tree chars below (Nodes rest) = IsRest tree below rest
IsCell tree chars below (GroupEnd group from rest) = (group ≤ tree.groups) × (from ≤ chars) × IsRest tree below rest
IsCell tree chars below (Iteration repeat count begun rest) =
    (repeat.body.0 < length tree.lists) × (count ≤ below + 1) × IsRest tree below rest

abbrev pub AreCells : Tree → ℕ → List Cell → Type 0
AreCells tree chars [] = Unit {0}
AreCells tree chars (cell ∷ older) = IsCell tree chars (length older) cell × AreCells tree chars older

abbrev pub IsFront : Tree → ℕ → ℕ → Front → Type 0
IsFront tree chars cells AtEnd = Unit {0}
IsFront tree chars cells (AtNode rest) = IsRest tree cells rest × (rest.index < length (nodes_of tree.lists rest.list))
IsFront tree chars cells (AtGroupEnd group from rest) = (group ≤ tree.groups) × (from ≤ chars) × IsRest tree cells rest
IsFront tree chars cells (AtIteration repeat count begun rest) =
    (repeat.body.0 < length tree.lists) × (count ≤ cells) × IsRest tree cells rest

abbrev pub IsResume : Tree → ℕ → Resume → Type 0
IsResume tree cells (Other rest) = IsRest tree cells rest
IsResume tree cells (Alternatives node way next) = (node.list.0 < length tree.lists) × (next ≤ cells)
IsResume tree cells (AfterAhead wanted rest) = IsRest tree cells rest
IsResume tree cells (AfterBehind node arm wanted rest) = (node.list.0 < length tree.lists) × IsRest tree cells rest
IsResume tree cells (AfterAtomic rest) = IsRest tree cells rest
IsResume tree cells (GiveBack more rest) = IsRest tree cells rest

-- an entry above so many cells and changes
pub record IsEntry (tree : Tree) (chars cells trail : ℕ) (entry : Entry) : Type 0 where
  pub below : entry.cells ≤ cells
  pub before : entry.trail ≤ trail
  pub at : entry.at ≤ chars
  pub resume : IsResume tree entry.cells entry.resume

abbrev pub AreEntries : Tree → ℕ → ℕ → ℕ → List Entry → Type 0
AreEntries tree chars cells trail [] = Unit {0}
AreEntries tree chars cells trail (entry ∷ entries) =
    IsEntry tree chars cells trail entry × AreEntries tree chars entry.cells entry.trail entries

-- a part of the text
abbrev pub IsTaken : ℕ → Option Place → Type 0
IsTaken chars None = Unit {0}
IsTaken chars (Some place) = (place.from ≤ chars) × (place.to ≤ chars)

abbrev pub AreTaken : ℕ → Captures → Type 0
AreTaken chars [] = Unit {0}
AreTaken chars (taken ∷ captures) = IsTaken chars taken × AreTaken chars captures

abbrev pub AreChanges : Tree → ℕ → List Change → Type 0
AreChanges tree chars [] = Unit {0}
AreChanges tree chars (change ∷ older) =
    (change.number ≤ tree.groups) × IsTaken chars change.old × AreChanges tree chars older

pub record IsSound (on : Searched) (area : Area) : Type 0 where
  pub groups : length area.captures.items ≡ on.pattern.now.groups + 1
  pub captures : AreTaken (length on.text.now) area.captures.items
  pub cells : AreCells on.pattern.now (length on.text.now) area.cells.items
  pub entries :
      AreEntries on.pattern.now (length on.text.now) (length area.cells.items) (length area.trail.items)
      area.entries.items
  pub trail : AreChanges on.pattern.now (length on.text.now) area.trail.items

abbrev pub IsStep : Searched → ℕ → Step → Type 0
IsStep on cells (Go point) = IsRest on.pattern.now cells point.rest × (point.at ≤ length on.text.now)
IsStep on cells (Found at) = at ≤ length on.text.now
IsStep on cells Failed = Unit {0}

-- there is room for so many visits
pub record HasRoom (area : Area) (visits : ℕ) : Type 0 where
  pub cells : length area.cells.items + visits ≤ area.cells.room
  pub entries : length area.entries.items + visits ≤ area.entries.room
  pub trail : length area.trail.items + visits ≤ area.trail.room
  pub small : area.cells.room < 2 ^ 32

pub record SameRooms (old new : Area) : Type 0 where
  pub captures : new.captures.room ≡ old.captures.room
  pub cells : new.cells.room ≡ old.cells.room
  pub entries : new.entries.room ≡ old.entries.room
  pub trail : new.trail.room ≡ old.trail.room

-- where the rest is still to match at a place, and there is room for a visit
pub record IsHere (on : Searched) (area : Area) (rest : Rest) (at : ℕ) : Type 0 where
  pub sound : IsSound on area
  pub room : HasRoom area 1
  pub inside : IsRest on.pattern.now (length area.cells.items) rest
  pub there : at ≤ length on.text.now
  pub short : length on.text.now < 2 ^ 31

-- A step that takes room for so many visits, and from which the attempt ends as told.
pub record Leads (on : Searched) (visits : ℕ) (old : Area) (answer : ℕ → Ran) (new : Area) (result : Step) :
    Type 0 where
  pub ends : (left : ℕ) → means (subject on) new result left ≡ answer left
  pub sound : IsSound on new
  pub step : IsStep on (length new.cells.items) result
  pub room : (left : ℕ) → HasRoom old (left + visits) → HasRoom new left
  pub rooms : SameRooms old new
  pub falls : 2 * length new.entries.items + rank result ≤ 2 * length old.entries.items + 3 * visits

-- A visit, and so many more in the same step. Before they are done the attempt doesn't end but by its budget.
pub record Visits (on : Searched) (old : Area) (answer : ℕ → Ran) (new : Area) (result : Visited) : Type 0 where
  pub leads : Leads on (result.more + 1) old (λ left. answer (left + result.more)) new result.step
  pub spent : (left : ℕ) → left < result.more → answer left ≡ Spent

-- going back, and so many visits in the same step
pub record Returns (on : Searched) (old : Area) (answer : ℕ → Ran) (new : Area) (result : Visited) : Type 0 where
  pub leads : Leads on result.more old (λ left. answer (left + result.more)) new result.step
  pub spent : (left : ℕ) → left < result.more → answer left ≡ Spent

-- so many characters, of those that hold, stand from a place on: as many as there are, or as may be
pub record IsRun (p : ℕ → Bool) (text : List ℕ) (at : ℕ) (most : Option ℕ) (taken : ℕ) : Type 0 where
  pub all : (k : ℕ) → k < taken → is_char p (slice_get text (at + k)) ≡ true
  pub may : (k : ℕ) → k < taken → is_greatest most k ≡ false
  pub ends : is_greatest most taken ≡ false → is_char p (slice_get text (at + taken)) ≡ false

-- nodes that begin with a single character that doesn't stand at a place
pub record BeginsElse (nodes : List PatNode) (text : List ℕ) (at : ℕ) : Type 0 where
  pub set : List CharRange
  pub more : List PatNode
  pub is : nodes ≡ One set ∷ more
  pub ends : is_char (in_set set) (slice_get text at) ≡ false

-- nodes that begin with a group that has this body
pub record BeginsInGroup (nodes : List PatNode) (body : ListId) : Type 0 where
  pub number : ℕ
  pub more : List PatNode
  pub is : nodes ≡ Group number body ∷ more

-- a list that misses at a place after so many visits, whatever is still to match behind it
pub record MissesEarly (s : Subject) (list : ListId) (at visits : ℕ) : Type 0 where
  pub misses : (rest : List Todo) (captures : Captures) (left : ℕ) →
      goes s (before s.lists list rest) at captures (left + visits) ≡ Miss left
  pub spent : (rest : List Todo) (captures : Captures) (left : ℕ) → left < visits →
      goes s (before s.lists list rest) at captures left ≡ Spent

-- the alternatives from one number to another miss at a place, after so many visits
pub record PassesWays (s : Subject) (ids : List ListId) (at way next more : ℕ) : Type 0 where
  pub on : (rest : List Todo) (captures : Captures) (left : ℕ) →
      tries (goes s) (map (λ id. before s.lists id rest) (drop way ids)) at captures (left + more)
      ≡ tries (goes s) (map (λ id. before s.lists id rest) (drop next ids)) at captures left
  pub spent : (rest : List Todo) (captures : Captures) (left : ℕ) → left < more →
      tries (goes s) (map (λ id. before s.lists id rest) (drop way ids)) at captures left ≡ Spent

-- an entry at which going on is the same, after so many visits
pub record PassesEarly (s : Subject) (entry : Entry) (passed : Passed) : Type 0 where
  pub resume : Resume
  pub is : passed.entry ≡ record entry { resume = resume }
  pub sound : (tree : Tree) (cells : ℕ) → IsResume tree cells entry.resume → IsResume tree cells resume
  pub on : (cells : List Cell) (captures : Captures) (left : ℕ) →
      resumed s cells captures entry.resume entry.at (Miss (left + passed.more))
      ≡ resumed s cells captures resume entry.at (Miss left)
  pub spent : (cells : List Cell) (captures : Captures) (left : ℕ) → left < passed.more →
      resumed s cells captures entry.resume entry.at (Miss left) ≡ Spent

-- at most a cell is added, which changes no end of the attempt
pub record AddsCell (on : Searched) (old new : Area) : Type 0 where
  pub carries : (ran : Ran) → carried (subject on) new ran ≡ carried (subject on) old ran
  pub sound : IsSound on new
  pub captures : new.captures ≡ old.captures
  pub entries : new.entries ≡ old.entries
  pub trail : new.trail ≡ old.trail
  pub room : new.cells.room ≡ old.cells.room
  pub grows : length old.cells.items ≤ length new.cells.items
  pub at_most : length new.cells.items ≤ length old.cells.items + 1
  pub stands : (lists : NodeLists) (rest : Rest) → IsRest on.pattern.now (length old.cells.items) rest →
      todo_of lists new.cells.items rest ≡ todo_of lists old.cells.items rest

-- a group takes something, and what it took before is kept
pub record Takes (old new : Area) (number : ℕ) (taken : Option Place) : Type 0 where
  pub before : Option Place
  pub was : slice_get old.captures.items number ≡ Some before
  pub now :
      new ≡ record old {
        captures = record old.captures { items = slice_set old.captures.items number taken };
        trail = record old.trail { items = record { number = number; old = before } ∷ old.trail.items };
      }

-- the next of the arms, from a number on, that isn't longer than a place
abbrev pub IsNextArm : List Arm → ℕ → ℕ → Option (ℕ × Arm) → Type 0
IsNextArm arms arm at None = filter (λ a. nat_le a.length at) (drop arm arms) ≡ []
IsNextArm arms arm at (Some found) =
    (filter (λ a. nat_le a.length at) (drop arm arms)
    ≡ found.1 ∷ filter (λ a. nat_le a.length at) (drop (found.0 + 1) arms))
    × (found.1.length ≤ at) × (found.0 < length arms)
