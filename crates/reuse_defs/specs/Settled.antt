-- The closed pairs of an old tree that no change meets or touches, and the marks of the new text that start where
-- brackets of these are moved to.
use Rattle.std.specs.Prelude.{ℕ, ◌==◌, ◌&&◌, ◌||◌, Bool, not, List, [], ◌∷◌, ◌++◌, Some, None}
use Rattle.std.specs.List.{list_any, list_all}
use Rattle.text_pos.specs.declared.length.Length.{Length}
use Rattle.text_pos.specs.Lengths.{plus}
use Rattle.pairing_defs.specs.declared.Mark.{Mark}
use Rattle.tree_defs.specs.Tree.{Tree, Nothing, Text, Bracket, Lone, Pair, Two, Three}
use Rattle.tree_defs.specs.Shape.{length_of}
use Rattle.tree_defs.specs.Rows.{start}
use Rattle.change_defs.specs.declared.Change.{Change}
use Rattle.change_defs.specs.declared.Placed.{Placed}
use Rattle.change_defs.specs.Changes.{is_less, placed, image}
use Rattle.change_defs.specs.Agreement.{start_of}

-- ---- closed pairs of a tree

-- a pair with its closer: where it starts, the length and the kind of its opener, what is inside, and the closer's length
pub record ClosedPair : Type 0 where
  pub from : Length
  pub opener : Length
  pub kind : ℕ
  pub inside : Tree
  pub closer : Length

abbrev pub node_of : ClosedPair → Tree
node_of p = Pair p.opener p.kind p.inside (Some p.closer)

abbrev pub closer_start : ClosedPair → Length
closer_start p = plus (plus p.from p.opener) (length_of p.inside)

abbrev pub end_of_pair : ClosedPair → Length
end_of_pair p = plus p.from (length_of (node_of p))

-- the closed pairs of a tree that starts at a place, each before those inside it
abbrev pub closed_pairs : Tree → Length → List ClosedPair
closed_pairs Nothing at = []
closed_pairs (Text len cut) at = []
closed_pairs (Bracket len kind) at = []
closed_pairs (Lone len kinds) at = []
closed_pairs (Pair opener kind inside None) at = closed_pairs inside (plus at opener)
closed_pairs (Pair opener kind inside (Some closer)) at =
    record { from = at; opener = opener; kind = kind; inside = inside; closer = closer }
    ∷ closed_pairs inside (plus at opener)
closed_pairs (Two a b) at = closed_pairs a at ++ closed_pairs b (plus at (length_of a))
closed_pairs (Three a b c) at =
    closed_pairs a at ++ (closed_pairs b (plus at (length_of a)) ++ closed_pairs c (plus (plus at (length_of a)) (length_of b)))

-- ---- settled marks

-- each change ends before the pair starts, or starts behind its end
abbrev pub is_unmet : List Placed → ClosedPair → Bool
is_unmet ps pair = list_all (λ p. is_less p.to.old pair.from || is_less (end_of_pair pair) p.from.old) ps

abbrev pub is_same : Length → Length → Bool
is_same a b = (a.lines == b.lines) && (a.cols == b.cols)

-- a mark of the new text starts where the pair's opener is moved to, or its closer
abbrev pub is_mark_of : List Change → Mark → ClosedPair → Bool
is_mark_of changes m pair =
    is_same (start_of m) (image changes pair.from) || is_same (start_of m) (image changes (closer_start pair))

abbrev pub settles : List Change → Mark → ClosedPair → Bool
settles changes m pair = is_unmet (placed changes) pair && is_mark_of changes m pair

-- a mark of the new text starts where a bracket is moved to of a closed pair of the old tree that no change meets or
-- touches
abbrev pub is_settled : Tree → List Change → Mark → Bool
is_settled t changes m = list_any (settles changes m) (closed_pairs t start)

abbrev pub is_unsettled : Tree → List Change → Mark → Bool
is_unsettled t changes m = not (is_settled t changes m)
