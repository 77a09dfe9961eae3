-- A number that is smaller for each part of a tree than for the tree.
use Rattle.std.specs.Prelude.{ℕ, ◌+◌}
use Rattle.tree_defs.specs.Tree.{Tree, Nothing, Text, Bracket, Lone, Pair, Two, Three}

-- how many parts a tree has
abbrev pub weight : Tree → ℕ
weight Nothing = 0
weight (Text len cut) = 1
weight (Bracket len kind) = 1
weight (Lone len kinds) = 1
weight (Pair opener kind inside closer) = weight inside + 2
weight (Two a b) = weight a + weight b + 1
weight (Three a b c) = weight a + weight b + weight c + 1
