-- Where a parse stands in a source of marks, and what stands next in a list.
use Rattle.std.specs.Prelude.{◌≡◌, ℕ, List, [], ◌∷◌, Bool, false, Option, Some, None}
use Rattle.text_pos.specs.declared.length.Length.{Length}
use Rattle.pairing_defs.specs.declared.Mark.{Mark}
use Rattle.bracket_marks.specs.MarkedLine.{MarkedLine}
use Rattle.mark_source.specs.Source.{Source, ahead, is_before}
use Rattle.tree_defs.specs.Tree as tree
use Rattle.tree_defs.specs.Shape.{leaves_of, EndsFit}
use Rattle.tree_defs.specs.Rows.{place}
use Rattle.reuse_parser.specs.declared.place.Around.{Around}
use Rattle.reuse_parser.specs.declared.old.Old.{Old}
use Rattle.reuse_parser.specs.declared.relist.Stop.{Stop}
use Rattle.reuse_parser.specs.declared.relist.Next.{Next}
use Rattle.reuse_parser.specs.declared.relist.Next.TheVariants as next
use Rattle.reuse_parser.specs.Olds.{IsSet}
use Rattle.reuse_parser.specs.Parsing.{Stopped, end_of, role_has}
use Rattle.reuse_parser.specs.Reusing.{ahead_of, Adds, Fills}

-- a source stands at a place or before it, with no mark between
pub record StandsAt (s : Source) (at : Length) : Type 0 where
  pub place : is_before (place at) s.place ≡ false
  pub ahead : ahead s ≡ ahead_of s.lines at

-- what is left of the marks where a list ends at a closer that is read
abbrev pub LeftAt : List MarkedLine → ℕ → Source → Old → Length → Option Mark → Type 0
LeftAt lines limit s old at None = StandsAt s at × IsSet lines limit old at × (ahead_of lines at ≡ [])
LeftAt lines limit s old at (Some m) = (ahead_of lines at ≡ m ∷ ahead_of lines (end_of m)) × StandsAt s (end_of m)
    × IsSet lines limit old (end_of m)

pub record IsStop (lines : List MarkedLine) (a : Around) (s : Source) (old : Old) (stop : Stop) : Type 0 where
  pub stopped : Stopped a stop.at (ahead_of lines stop.at)
  pub left : LeftAt lines a.limit s old stop.at stop.closer

-- a pair without closer, behind which its list ends
pub record Lasts (lines : List MarkedLine) (a : Around) (at : Length) (node : tree.Tree) (to : Length) : Type 0 where
  pub fills : Fills lines a at node to
  pub runs : EndsFit at (leaves_of node)

-- what stands next in a list
abbrev pub IsNext : List MarkedLine → Around → Length → Source → Old → Next → Type 0
IsNext lines a at s old (next.Node node to) = Adds lines a at node to × StandsAt s to × IsSet lines a.limit old to
IsNext lines a at s old (next.Last node stop) = Lasts lines a at node stop.at × IsStop lines a s old stop
IsNext lines a at s old (next.End stop) = (stop.at ≡ at) × IsStop lines a s old stop

-- whether the mark closes the kind, where there is one
abbrev pub closer_has : Option Mark → ℕ → Bool
closer_has None kind = false
closer_has (Some m) kind = role_has m.role kind

-- the place of a mark that was read
pub record IsMark (lines : List MarkedLine) (at : Length) (m : Mark) : Type 0 where
  pub is : ahead_of lines at ≡ m ∷ ahead_of lines (end_of m)
