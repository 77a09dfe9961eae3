-- The path from a tree's root to a node of it.
use Rattle.std.specs.Prelude.{◌≡◌, ◌<◌, ◌≤◌, List, [], ◌∷◌, reverse, slice_get, Option, Some, None}
use Rattle.text_pos.specs.declared.length.Length.{Length}
use Rattle.text_pos.specs.Lengths.{plus}
use Rattle.tree_defs.specs.Tree.{Tree}
use Rattle.tree_defs.specs.Shape.{no_length, length_of, Fits, IsSome}
use Rattle.bracket_ast.specs.Shapes.{or_nothing, nows}
use Rattle.node_reader.specs.Parts.{parts_of, front, levels}
use Rattle.node_reader.specs.Starts.{starting}
use Rattle.node_reader.specs.declared.place.Step.{Step}
use Rattle.node_reader.specs.declared.place.Place.{Place}

abbrev pub node_of : Step → Tree
node_of s = or_nothing (nows s.node)

-- how far into the node of a step an offset lies that lies so far into the part to which the step leads
abbrev pub from_step : Step → Length → Length
from_step s rest = plus (front s.part (node_of s)) rest

-- Steps from a node back to the root, the last first: each leads to the node, or to that of the step before. An offset
-- that lies so far into the node lies behind the start of each of them.
abbrev pub IsPath : List Step → Tree → Length → Type 0
IsPath [] t rest = Unit {0}
IsPath (s ∷ ss) t rest =
    (slice_get (parts_of (node_of s)) s.part ≡ Some t) × (levels t < levels (node_of s)) × IsSome rest
    × IsPath ss (node_of s) (from_step s rest)

-- the root from which the steps lead to a node
abbrev pub root_by : List Step → Tree → Tree
root_by [] t = t
root_by (s ∷ ss) t = root_by ss (node_of s)

-- how far into that root an offset lies that lies so far into the node
abbrev pub offset_by : List Step → Length → Length
offset_by [] rest = rest
offset_by (s ∷ ss) rest = offset_by ss (from_step s rest)

abbrev pub steps_back : Place → List Step
steps_back p = reverse p.path.items

abbrev pub root_of : Place → Tree
root_of p = root_by (steps_back p) p.node.now

-- the offset from the root's start
abbrev pub offset_of : Place → Length
offset_of p = offset_by (steps_back p) p.rest

pub record IsPlace (p : Place) : Type 0 where
  pub path : IsPath (steps_back p) p.node.now p.rest
  pub fits : Fits (offset_of p)
  pub room : levels (root_of p) ≤ p.path.capacity

-- from one place to another of the same root and offset
pub record IsSamePlace (p q : Place) : Type 0 where
  pub is : IsPlace q
  pub root : root_of q ≡ root_of p
  pub offset : offset_of q ≡ offset_of p

-- the outermost node of a tree that starts at an offset
abbrev pub StartsHere : Tree → Length → Option Tree → Type 0
StartsHere t offset None = starting t offset ≡ []
StartsHere t offset (Some found) = (starting t offset ≡ starting found no_length) × IsSome (length_of found)
