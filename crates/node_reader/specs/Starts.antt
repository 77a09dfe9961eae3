-- The nodes of a tree that start at an offset.
use Rattle.std.specs.Prelude.{ℕ, ◌+◌, ◌==◌, ◌&&◌, nat_lt, if◌then◌else◌, List, [], ◌∷◌, ◌++◌, Bool, Option, Some, None}
use Rattle.text_pos.specs.declared.length.Length.{Length}
use Rattle.text_pos.specs.Lengths.{plus}
use Rattle.tree_defs.specs.Tree.{Tree, Nothing, Text, Bracket, Lone, Pair, Two, Three}
use Rattle.tree_defs.specs.Shape.{no_length, length_of}

abbrev pub is_same : Length → Length → Bool
is_same a b = (a.lines == b.lines) && (a.cols == b.cols)

abbrev pub is_some : Length → Bool
is_some len = nat_lt 0 (len.lines + len.cols)

-- a node that starts at a place, where that is the offset; no node is empty
abbrev pub here : Tree → Length → Length → List Tree
here t at offset = if is_same at offset && is_some (length_of t) then t ∷ [] else []

abbrev pub closer_here : ℕ → Option Length → Length → Length → List Tree
closer_here kind None at offset = []
closer_here kind (Some closer) at offset = here (Bracket closer kind) at offset

-- of a tree that starts at a place, the nodes that start at an offset, each before those that lie in it
abbrev pub starting_from : Tree → Length → Length → List Tree
starting_from Nothing at offset = []
starting_from (Text len cut) at offset = here (Text len cut) at offset
starting_from (Bracket len kind) at offset = here (Bracket len kind) at offset
starting_from (Lone len kinds) at offset = here (Lone len kinds) at offset
starting_from (Pair opener kind inside closer) at offset =
    here (Pair opener kind inside closer) at offset ++ (here (Bracket opener kind) at offset
    ++ (starting_from inside (plus at opener) offset
    ++ closer_here kind closer (plus (plus at opener) (length_of inside)) offset))
starting_from (Two a b) at offset =
    here (Two a b) at offset ++ (starting_from a at offset ++ starting_from b (plus at (length_of a)) offset)
starting_from (Three a b c) at offset =
    here (Three a b c) at offset ++ (starting_from a at offset ++ (starting_from b (plus at (length_of a)) offset
    ++ starting_from c (plus (plus at (length_of a)) (length_of b)) offset))

-- the nodes of a tree that start at an offset, from the outermost on
abbrev pub starting : Tree → Length → List Tree
starting t offset = starting_from t no_length offset
