-- Nodes that are being joined.
use Rattle.std.specs.Prelude.{◌≡◌, ℕ, List, [], ◌∷◌, Option, Some, None}
use Rattle.tree_defs.specs.Tree.{Tree}
use Rattle.tree_defs.specs.Shape.{leaves_of, height}

-- nodes of one height
abbrev pub AllHigh : ℕ → List Tree → Type 0
AllHigh high [] = Unit {0}
AllHigh high (t ∷ ts) = (height t ≡ high) × AllHigh high ts

abbrev pub some_leaves : Option Tree → List Tree
some_leaves None = []
some_leaves (Some t) = leaves_of t

abbrev pub SomeHigh : ℕ → Option Tree → Type 0
SomeHigh high None = Unit {0}
SomeHigh high (Some t) = height t ≡ high

abbrev pub first_height : List Tree → ℕ
first_height [] = 0
first_height (t ∷ ts) = height t
