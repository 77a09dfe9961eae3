-- How numbered lists of nodes are kept: all nodes stand in one list, one list's nodes behind another's.
use Rattle.std.specs.Prelude.{ℕ, ◌≡◌, ◌^◌, ◌<◌, ◌≤◌, List, [], ◌∷◌, length, slice_range}
use Rattle.pattern_defs.specs.declared.nodes.PatNode.{PatNode}
use Rattle.pattern_defs.specs.Patterns.{NodeLists}
use Rattle.pattern_tree.specs.declared.arena.NodeArena.TheInside.{Inside}

-- the lists that end at these places, of which the first begins at `from` and each other one where the one before ends
abbrev pub parts : List PatNode → ℕ → List ℕ → NodeLists
parts nodes from [] = []
parts nodes from (end ∷ ends) = slice_range nodes from end ∷ parts nodes end ends

-- no list ends before it begins, and the last one ends at `all`
abbrev pub AreEnds : ℕ → List ℕ → ℕ → Type 0
AreEnds from [] all = from ≡ all
AreEnds from (end ∷ ends) all = (from ≤ end) × AreEnds end ends all

abbrev pub lists_of : Inside → NodeLists
lists_of a = parts a.nodes.items 0 a.ends.items

pub record IsArena (a : Inside) : Type 0 where
  pub ends : AreEnds 0 a.ends.items (length a.nodes.items)
  pub count : length a.nodes.items < 2 ^ 32
