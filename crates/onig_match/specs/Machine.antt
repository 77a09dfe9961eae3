-- What the stack of an attempt stands for: what is still to match, and what is done with an end of the list in hand.
use Rattle.std.specs.Prelude.{ℕ, zero, suc, ◌+◌, ◌-◌, ◌==◌, List, [], ◌∷◌, ◌++◌, length, map, take, drop, Bool, true, false}
use Rattle.std.specs.Prelude.{Option, Some, None, slice_get, slice_set}
use Rattle.pattern_defs.specs.declared.nodes.ListId.{ListId}
use Rattle.pattern_defs.specs.declared.nodes.Arm.{Arm}
use Rattle.pattern_defs.specs.declared.nodes.PatNode.{PatNode}
use Rattle.pattern_defs.specs.declared.nodes.PatNode.TheVariants.{Choice, Behind}
use Rattle.pattern_defs.specs.declared.outcomes.Place.{Place}
use Rattle.pattern_defs.specs.Patterns.{NodeLists, nodes_of}
use Rattle.pattern_defs.specs.Attempt.{Subject, Captures, Todo, Node, Close, Again, Ran, Hit, Miss, Spent, Going}
use Rattle.pattern_defs.specs.Attempt.{before}
use Rattle.pattern_defs.specs.Attempt.{or_else, tries, looked, arms_run, kept_whole, act, stands_again}
use Rattle.onig_match.specs.declared.cells.Rest.{Rest}
use Rattle.onig_match.specs.declared.cells.NodeAt.{NodeAt}
use Rattle.onig_match.specs.declared.cells.Cell.{Cell}
use Rattle.onig_match.specs.declared.cells.Cell.TheVariants.{Nodes, GroupEnd, Iteration}
use Rattle.onig_match.specs.declared.cells.Front.{Front}
use Rattle.onig_match.specs.declared.cells.Front.TheVariants.{AtEnd, AtNode, AtGroupEnd, AtIteration}
use Rattle.onig_match.specs.declared.entries.Change.{Change}
use Rattle.onig_match.specs.declared.entries.Resume.{Resume}
use Rattle.onig_match.specs.declared.entries.Resume.TheVariants.{Other, Alternatives, AfterAhead, AfterBehind}
use Rattle.onig_match.specs.declared.entries.Resume.TheVariants.{AfterAtomic, GiveBack}
use Rattle.onig_match.specs.declared.entries.Entry.{Entry}
use Rattle.onig_match.specs.declared.entries.End.{End}
use Rattle.onig_match.specs.declared.entries.End.TheVariants as ends
use Rattle.onig_match.specs.declared.entries.Step.{Step}
use Rattle.onig_match.specs.declared.entries.Step.TheVariants.{Go, Found, Failed}
use Rattle.onig_match.specs.declared.area.Area.{Area}
use Rattle.onig_match.specs.declared.searched.Searched.{Searched}
use Rattle.onig_match.specs.Goes.{goes}

abbrev pub subject : Searched → Subject
subject on = record { lists = on.pattern.now.lists; text = on.text.now; flags = on.flags }

abbrev pub pick : Bool → List Todo → List Todo → List Todo
pick true new old = new
pick false new old = old

-- the oldest items, of a list with the newest first
abbrev pub kept : {A : Type 0} → ℕ → List A → List A
kept height items = drop (length items - height) items

-- what is still to match

abbrev pub nodes_from : NodeLists → Rest → List Todo
nodes_from lists rest = map Node (drop rest.index (nodes_of lists rest.list))

-- what begins with the cell that has this number, and ends with the list. The first cell has the number 1.
abbrev pub chain : NodeLists → List Cell → ℕ → List Todo
chain lists [] number = []
chain lists (Nodes rest ∷ older) number =
    pick (number == suc (length older)) (nodes_from lists rest ++ chain lists older rest.next)
    (chain lists older number)
chain lists (GroupEnd group from rest ∷ older) number =
    pick (number == suc (length older)) (Close group from ∷ (nodes_from lists rest ++ chain lists older rest.next))
    (chain lists older number)
chain lists (Iteration repeat count begun rest ∷ older) number =
    pick (number == suc (length older))
    (Again repeat.body repeat.least repeat.most repeat.greedy count begun
    ∷ (nodes_from lists rest ++ chain lists older rest.next))
    (chain lists older number)

abbrev pub todo_of : NodeLists → List Cell → Rest → List Todo
todo_of lists cells rest = nodes_from lists rest ++ chain lists cells rest.next

abbrev pub cell_todo : NodeLists → List Cell → Cell → List Todo
cell_todo lists cells (Nodes rest) = todo_of lists cells rest
cell_todo lists cells (GroupEnd group from rest) = Close group from ∷ todo_of lists cells rest
cell_todo lists cells (Iteration repeat count begun rest) =
    Again repeat.body repeat.least repeat.most repeat.greedy count begun ∷ todo_of lists cells rest

abbrev pub front_todo : NodeLists → List Cell → Front → List Todo
front_todo lists cells AtEnd = []
front_todo lists cells (AtNode rest) = todo_of lists cells rest
front_todo lists cells (AtGroupEnd group from rest) = Close group from ∷ todo_of lists cells rest
front_todo lists cells (AtIteration repeat count begun rest) =
    Again repeat.body repeat.least repeat.most repeat.greedy count begun ∷ todo_of lists cells rest

abbrev pub ids_in : Option PatNode → List ListId
ids_in (Some (Choice ids)) = ids
ids_in _ = []

-- the alternatives of a node
abbrev pub ids_at : NodeLists → NodeAt → List ListId
ids_at lists node = ids_in (slice_get (nodes_of lists node.list) node.index)

abbrev pub arms_in : Option PatNode → List Arm
arms_in (Some (Behind arms wanted)) = arms
arms_in _ = []

-- the arms of a lookbehind
abbrev pub arms_at : NodeLists → NodeAt → List Arm
arms_at lists node = arms_in (slice_get (nodes_of lists node.list) node.index)

-- captures before changes, of which the newest is the first
abbrev pub undone : List Change → Captures → Captures
undone [] captures = captures
undone (change ∷ older) captures = undone older (slice_set captures change.number change.old)

-- the captures of when the trail had this height
abbrev pub captures_at : ℕ → List Change → Captures → Captures
captures_at height trail captures = undone (take (length trail - height) trail) captures

-- going on at a place and, where that finds nothing, at so many places before it, one after the other
abbrev pub given_back : Going → List Todo → ℕ → ℕ → Captures → ℕ → Ran
given_back go todo zero at captures left = go todo at captures left
given_back go todo (suc more) at captures left =
    or_else (go todo at captures left) (λ rest. given_back go todo more (at - 1) captures rest)

-- what is done at an entry with an end of what was tried above it
abbrev pub resumed : Subject → List Cell → Captures → Resume → ℕ → Ran → Ran
resumed s cells captures (Other rest) at ran =
    or_else ran (λ left. goes s (todo_of s.lists cells rest) at captures left)
resumed s cells captures (Alternatives node way next) at ran =
    or_else ran
    (λ left. tries (goes s) (map (λ id. before s.lists id (chain s.lists cells next))
    (drop way (ids_at s.lists node))) at
    captures left)
resumed s cells captures (AfterAhead wanted rest) at ran =
    looked wanted ran (goes s) (todo_of s.lists cells rest) at captures
resumed s cells captures (AfterBehind node arm wanted rest) at ran =
    looked wanted (or_else ran (λ left. arms_run s (goes s) (drop arm (arms_at s.lists node)) at captures left))
    (goes s)
    (todo_of s.lists cells rest) at captures
resumed s cells captures (AfterAtomic rest) at ran = kept_whole ran (goes s) (todo_of s.lists cells rest)
resumed s cells captures (GiveBack more rest) at ran =
    or_else ran (λ left. given_back (goes s) (todo_of s.lists cells rest) more at captures left)

-- the end of the attempt, by the end of what is tried above the entries
abbrev pub carry : Subject → List Cell → List Change → Captures → List Entry → Ran → Ran
carry s cells trail captures [] ran = ran
carry s cells trail captures (entry ∷ entries) ran =
    carry s (kept entry.cells cells) (kept entry.trail trail) (captures_at entry.trail trail captures) entries
    (resumed s (kept entry.cells cells) (captures_at entry.trail trail captures) entry.resume entry.at ran)

abbrev pub carried : Subject → Area → Ran → Ran
carried s area ran = carry s area.cells.items area.trail.items area.captures.items area.entries.items ran

abbrev pub ran_of : Subject → Area → Step → ℕ → Ran
ran_of s area (Go point) left = goes s (todo_of s.lists area.cells.items point.rest) point.at area.captures.items left
ran_of s area (Found at) left = Hit at area.captures.items left
ran_of s area Failed left = Miss left

-- how the attempt ends from here, with so many visits left
abbrev pub means : Subject → Area → Step → ℕ → Ran
means s area step left = carried s area (ran_of s area step left)

abbrev pub with_entry : Area → Entry → Area
with_entry area entry = record area {
  entries =
      record { room = area.entries.room; items = entry ∷ area.entries.items };
}

-- how the attempt ends by what is done at the first of what is still to match
abbrev pub acted : Searched → Area → Todo → Rest → ℕ → ℕ → Ran
acted on area first rest at left =
    carried (subject on) area
    (act (subject on) (goes (subject on)) first (todo_of on.pattern.now.lists area.cells.items rest) at
    area.captures.items left)

-- going on where something holds
abbrev pub step_where : Bool → Rest → ℕ → Step
step_where true rest at = Go (record { rest = rest; at = at })
step_where false rest at = Failed

abbrev pub node_of : Rest → NodeAt
node_of here = record { list = here.list; index = here.index }

abbrev pub behind_node : Rest → Rest
behind_node here = record { list = here.list; next = here.next; index = here.index + 1 }

-- where a back reference leads
abbrev pub step_back : Bool → List ℕ → Option Place → Rest → ℕ → Step
step_back fold text None rest at = Failed
step_back fold text (Some taken) rest at =
    step_where (stands_again fold text taken at) rest (at + (taken.to - taken.from))

abbrev pub end_of : Ran → End
end_of (Hit at captures left) = ends.Found at
end_of (Miss left) = ends.Failed
end_of Spent = ends.Spent

-- a step that goes on comes after one that ends
abbrev pub rank : Step → ℕ
rank (Go point) = 0
rank (Found at) = 1
rank Failed = 1
