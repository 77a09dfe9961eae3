-- A tree that stands for all marks of lines.
use Rattle.std.specs.Prelude.{◌≡◌, ℕ, List, [], map}
use Rattle.tree_defs.specs.Tree.{Tree}
use Rattle.tree_defs.specs.Shape.{length_of, IsEven}
use Rattle.tree_defs.specs.Items.{items_of, behind, Stands}
use Rattle.tree_defs.specs.Ends.{EndAt, in_lines, fits}
use Rattle.tree_defs.specs.Cuts.{CutsLie}
use Rattle.tree_defs.specs.Rows.{start, place, tree_rows, AreFull}
use Rattle.pairing_defs.specs.Pairing.{paired}
use Rattle.bracket_marks.specs.MarkedLine.{MarkedLine, marks_in, text_end}

-- The tree stands for the marks at the nesting limit and is as long as the text, its items end where the text ends, and
-- the children of each list are equally high. Each of its nodes ends in a line of the text, at its end or before it, at
-- a place of 32 bits. Its rows are those that pairing all marks by one stack gives. Its cut texts are those that hold
-- openers which are met at the limit.
pub record StandsFor (limit : ℕ) (t : Tree) (lines : List MarkedLine) : Type 0 where
  pub stands : Stands limit 0 (items_of t) start (marks_in lines)
  pub long : place (length_of t) ≡ text_end lines
  pub ends : place (behind (items_of t) start) ≡ text_end lines
  pub even : IsEven t
  pub inside : EndAt (in_lines (map (λ l. l.length) lines)) (items_of t) start
  pub fit : EndAt fits (items_of t) start
  pub rows : AreFull (paired limit (text_end lines) (marks_in lines)) (tree_rows (items_of t) start 0 [])
  pub cuts : CutsLie limit t (marks_in lines)
