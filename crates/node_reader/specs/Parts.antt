-- The parts of a node, by their numbers.
use Rattle.std.specs.Prelude.{◌≡◌, ◌⊎◌, ℕ, ◌+◌, ◌*◌, ◌<◌, List, [], ◌∷◌, take, slice_get, Option, Some, None}
use Rattle.text_pos.specs.declared.length.Length.{Length}
use Rattle.text_pos.specs.Lengths.{plus, IsLess}
use Rattle.tree_defs.specs.Tree.{Tree, Nothing, Bracket, Pair, Two, Three, depth}
use Rattle.tree_defs.specs.Shape.{length_of, height, total}
use Rattle.node_reader.specs.declared.parts.PartAt.{PartAt}

-- opener, inside and closer of a pair, and the children of a list
abbrev pub parts_of : Tree → List Tree
parts_of (Pair opener kind inside None) = Bracket opener kind ∷ inside ∷ []
parts_of (Pair opener kind inside (Some closer)) = Bracket opener kind ∷ inside ∷ Bracket closer kind ∷ []
parts_of (Two a b) = a ∷ b ∷ []
parts_of (Three a b c) = a ∷ b ∷ c ∷ []
parts_of _ = []

-- how long the parts before a part are together
abbrev pub front : ℕ → Tree → Length
front n t = total (take n (parts_of t))

-- at most so many nodes lie one in the other: a list is less than 65 high
abbrev pub levels : Tree → ℕ
levels t = 65 * depth t + height t

-- part n, if there is a node
abbrev pub IsPart : Tree → ℕ → Option Tree → Type 0
IsPart t n None = (slice_get (parts_of t) n ≡ None) ⊎ (slice_get (parts_of t) n ≡ Some Nothing)
IsPart t n (Some part) = slice_get (parts_of t) n ≡ Some part

-- a part of a node, in which an offset lies
pub record Holds (t : Tree) (at : Length) (p : PartAt) : Type 0 where
  pub is : slice_get (parts_of t) p.number ≡ Some p.node.now
  pub lies : plus (front p.number t) p.rest ≡ at
  pub within : IsLess p.rest (length_of p.node.now)
  pub lower : levels p.node.now < levels t

-- the part in which an offset lies; no part where there are none
abbrev pub IsPartAt : Tree → Length → Option PartAt → Type 0
IsPartAt t offset None = parts_of t ≡ []
IsPartAt t offset (Some p) = Holds t offset p
