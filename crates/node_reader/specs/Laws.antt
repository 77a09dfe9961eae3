-- The first node that passes is the longest.
use Rattle.std.specs.Prelude.{Option, Some, None}
use Rattle.text_pos.specs.declared.length.Length.{Length}
use Rattle.text_pos.specs.Lengths.{IsLess}
use Rattle.tree_defs.specs.Tree.{Tree}
use Rattle.tree_defs.specs.Shape.{length_of}
use Rattle.tree_defs.specs.Cuts.{IsIn}
use Rattle.node_reader.specs.Starts.{starting}
use Rattle.node_reader.specs.Asks.{IsPassing, IsLongest}
use Rattle.node_reader.specs.declared.ask.Ask.{Ask}

-- no other node that passes is longer; without a node none passes
abbrev pub IsBest : Ask → Option Tree → Tree → Type 0
IsBest ask None other = ¬ IsPassing ask other
IsBest ask (Some found) other = IsPassing ask other → ¬ IsLess (length_of found) (length_of other)

abbrev pub LongestLaw : Type 0
LongestLaw = (ask : Ask) (t : Tree) (offset : Length) (found : Option Tree) → IsLongest ask t offset found
    → (other : Tree) → IsIn other (starting t offset) → IsBest ask found other
