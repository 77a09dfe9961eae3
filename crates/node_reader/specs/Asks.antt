-- Which nodes pass, and the longest that does.
use Rattle.std.specs.Prelude.{◌≡◌, ◌⊎◌, List, [], ◌∷◌, Option, Some, None}
use Rattle.text_pos.specs.declared.length.Length.{Length}
use Rattle.text_pos.specs.Lengths.{IsLess}
use Rattle.tree_defs.specs.Tree.{Tree, CanBeReused}
use Rattle.tree_defs.specs.Shape.{length_of}
use Rattle.node_reader.specs.Starts.{starting}
use Rattle.node_reader.specs.declared.ask.Ask.{Ask}

-- shorter than the room, where there is one
abbrev pub HasRoom : Option Length → Length → Type 0
HasRoom None len = Unit {0}
HasRoom (Some room) len = IsLess len room

abbrev pub IsPassing : Ask → Tree → Type 0
IsPassing ask t = HasRoom ask.room (length_of t) × CanBeReused ask.above ask.level ask.limit t

-- the first of some nodes that passes, if one does
abbrev pub IsFirst : Ask → List Tree → Option Tree → Type 0
IsFirst ask [] found = found ≡ None
IsFirst ask (t ∷ ts) found = (IsPassing ask t × (found ≡ Some t)) ⊎ ((¬ IsPassing ask t) × IsFirst ask ts found)

-- the longest node of a tree that starts at an offset and passes: of those that start there, each lies in the one before
abbrev pub IsLongest : Ask → Tree → Length → Option Tree → Type 0
IsLongest ask t offset found = IsFirst ask (starting t offset) found
