-- What a parse that reads an old tree keeps, so that it reads unsettled marks alone where each old mark has a row with
-- a partner and each new mark a row.
use Rattle.std.specs.Prelude.{◌≡◌, ℕ, ◌++◌, List, length, true, false, Some}
use Rattle.text_pos.specs.declared.length.Length.{Length}
use Rattle.text_pos.specs.Lengths.{plus, IsLess}
use Rattle.pairing_defs.specs.declared.Mark.{Mark}
use Rattle.pairing_defs.specs.Pairing.{open_after, nothing_open}
use Rattle.bracket_marks.specs.MarkedLine.{MarkedLine, marks_in}
use Rattle.tree_defs.specs.Tree.{Tree, CanBeReused}
use Rattle.tree_defs.specs.Shape.{length_of}
use Rattle.tree_defs.specs.Cuts.{IsIn}
use Rattle.tree_defs.specs.Ends.{IsInLine}
use Rattle.tree_defs.specs.Reuse.{AreAmong}
use Rattle.tree_defs.specs.Rows.{start}
use Rattle.change_defs.specs.declared.Change.{Change}
use Rattle.change_defs.specs.Changes.{placed, image, before, distance}
use Rattle.reuse_defs.specs.Since.{Since}
use Rattle.reuse_defs.specs.Settled.{ClosedPair, closed_pairs, node_of, is_unmet, is_settled}
use Rattle.reuse_defs.specs.Unsettled.{AllPaired, NoneCut}
use Rattle.reuse_parser.specs.declared.place.Around.{Around}
use Rattle.reuse_parser.specs.Parsing.{start_of}
use Rattle.reuse_parser.specs.Reusing.{ahead_of, HasRoom}

-- each old mark has a row with a partner, and each new mark a row
pub record IsCalm (limit : ℕ) (t : Tree) (changes : List Change) (lines : List MarkedLine) : Type 0 where
  pub since : Since limit t changes lines
  pub paired : AllPaired limit since.old
  pub uncut : NoneCut limit lines

-- a place of the new text lies strictly inside no closed pair of the old tree that no change meets or touches
abbrev pub IsOutside : Tree → List Change → Length → Type 0
IsOutside t changes at = (p : ClosedPair) → IsIn p (closed_pairs t start) → is_unmet (placed changes) p ≡ true
    → IsLess (image changes p.from) at → ¬ IsLess at (plus (image changes p.from) (length_of (node_of p)))

-- no mark that starts at a place is settled
abbrev pub NoneSettled : Tree → List Change → Length → Type 0
NoneSettled t changes at = (m : Mark) → start_of m ≡ at → is_settled t changes m ≡ false

-- pairing has as many open entries before a place as pairs are around a list there, each of a kind above it
pub record IsOpenAt (lines : List MarkedLine) (a : Around) (at : Length) : Type 0 where
  pub front : List Mark
  pub are : marks_in lines ≡ front ++ ahead_of lines at
  pub level : length (open_after a.limit nothing_open front).entries ≡ a.level
  pub among : AreAmong a.above (open_after a.limit nothing_open front).entries

-- of the closed pairs that start at the old place of a place, end before the next change and have their opener in one
-- line, none can be reused there
abbrev pub NonePasses : Tree → List Change → Around → Length → Type 0
NonePasses t changes a at = (p : ClosedPair) → IsIn p (closed_pairs t start) → IsInLine p.opener
    → before changes at ≡ Some p.from → HasRoom (distance changes at) (length_of (node_of p))
    → ¬ CanBeReused a.above a.level a.limit (node_of p)
