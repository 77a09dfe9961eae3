-- What of an old tree stands in a new text: where a node is found, and what it adds to a list there.
use Rattle.std.specs.Prelude.{◌≡◌, ℕ, ◌+◌, ◌<◌, ◌≤◌, ◌^◌, List, [], ◌∷◌, ◌++◌, length, Bool, false, Option, Some, None}
use Rattle.text_pos.specs.declared.length.Length.{Length}
use Rattle.text_pos.specs.Lengths.{plus, IsLess}
use Rattle.pairing_defs.specs.declared.Mark.{Mark}
use Rattle.bracket_marks.specs.MarkedLine.{MarkedLine, marks_in, text_end}
use Rattle.mark_source.specs.Source.{marks_from, AreMarked}
use Rattle.tree_defs.specs.Tree as tree
use Rattle.tree_defs.specs.Tree.{CanBeReused, is_bare}
use Rattle.tree_defs.specs.Shape.{length_of, leaves_of, EndsFit}
use Rattle.tree_defs.specs.Items.{Items, items_then, items_of}
use Rattle.tree_defs.specs.Items as items
use Rattle.tree_defs.specs.Ends.{EndAt, in_lines}
use Rattle.tree_defs.specs.Rows.{place, start}
use Rattle.change_defs.specs.declared.Change.{Change}
use Rattle.change_defs.specs.Changes.{before, distance}
use Rattle.reuse_parser.specs.declared.place.Around.{Around}
use Rattle.reuse_parser.specs.Parsing.{Fine, front_has}
use Rattle.reuse_defs.specs.Since.{lengths_of}

-- ---- places of the new text

-- the marks of lines from a place on
abbrev pub ahead_of : List MarkedLine → Length → List Mark
ahead_of lines at = marks_from (place at) (marks_in lines)

-- a place of a text whose end is known
pub record IsIn (lines : List MarkedLine) (a : Around) (at : Length) : Type 0 where
  pub marked : AreMarked lines
  pub some : 0 < length lines
  pub last : place a.end ≡ text_end lines
  pub up_to : ¬ IsLess a.end at

-- ---- the old tree

-- how a node lies in a tree: where it starts, and in how many pairs of the tree
pub data IsPart (t : tree.Tree) (at : Length) (level : ℕ) : tree.Tree → Length → ℕ → Type 0 where
  itself : IsPart t at level t at level
  in_first : (a b : tree.Tree) (from : Length) (n : ℕ) → IsPart t at level a from n
      → IsPart t at level (tree.Two a b) from n
  in_second : (a b : tree.Tree) (from : Length) (n : ℕ) → IsPart t at level b (plus from (length_of a)) n
      → IsPart t at level (tree.Two a b) from n
  in_front : (a b c : tree.Tree) (from : Length) (n : ℕ) → IsPart t at level a from n
      → IsPart t at level (tree.Three a b c) from n
  in_middle : (a b c : tree.Tree) (from : Length) (n : ℕ) → IsPart t at level b (plus from (length_of a)) n
      → IsPart t at level (tree.Three a b c) from n
  in_back : (a b c : tree.Tree) (from : Length) (n : ℕ)
      → IsPart t at level c (plus (plus from (length_of a)) (length_of b)) n
      → IsPart t at level (tree.Three a b c) from n
  in_pair : (opener : Length) (kind : ℕ) (inside : tree.Tree) (closer : Option Length) (from : Length) (n : ℕ)
      → IsPart t at level inside (plus from opener) (n + 1)
      → IsPart t at level (tree.Pair opener kind inside closer) from n

abbrev pub HasRoom : Option Length → Length → Type 0
HasRoom None len = Unit {0}
HasRoom (Some room) len = IsLess len room

-- a node of a tree, with a row, that starts at the old place of a place and ends before the next change, and that can be
-- reused there
pub record IsFound (old : tree.Tree) (changes : List Change) (a : Around) (at : Length) (t : tree.Tree) : Type 0 where
  pub from : Length
  pub level : ℕ
  pub is : before changes at ≡ Some from
  pub part : IsPart t from level old start 0
  pub room : HasRoom (distance changes at) (length_of t)
  pub can : CanBeReused a.above a.level a.limit t
  pub some : is_bare t ≡ false

-- each line is of 32 bits
abbrev pub AreShort : List MarkedLine → Type 0
AreShort [] = Unit {0}
AreShort (line ∷ lines) = (line.length < 2 ^ 32) × AreShort lines

-- ---- lists

abbrev pub InLines : List MarkedLine → Items → Length → Type 0
InLines lines its at = EndAt (in_lines (lengths_of lines)) its at

-- a node and the place behind it: whatever stands there, stands behind the node too
pub record Adds (lines : List MarkedLine) (a : Around) (at : Length) (node : tree.Tree) (to : Length) : Type 0 where
  pub done : List Mark
  pub are : ahead_of lines at ≡ done ++ ahead_of lines to
  pub long : plus at (length_of node) ≡ to
  pub shallow : tree.depth node + a.level ≤ a.limit
  pub up_to : ¬ IsLess a.end to
  pub later : IsLess at to
  pub runs : EndsFit at (leaves_of node)
  pub leads : (its : Items) (ms : List Mark) (has : ℕ → Bool) (stop : Length) → Fine a has stop its to ms
      → Fine a has stop (items_then node its) at (done ++ ms)
  pub ends : (its : Items) → InLines lines its to → InLines lines (items_then node its) at

-- a tree that fills a list up to where it ends
pub record Fills (lines : List MarkedLine) (a : Around) (at : Length) (t : tree.Tree) (to : Length) : Type 0 where
  pub done : List Mark
  pub are : ahead_of lines at ≡ done ++ ahead_of lines to
  pub long : plus at (length_of t) ≡ to
  pub shallow : tree.depth t + a.level ≤ a.limit
  pub up_to : ¬ IsLess a.end to
  pub fine : Fine a (front_has (ahead_of lines to)) to (items_then t items.end) at done
  pub ends : InLines lines (items_then t items.end) at
