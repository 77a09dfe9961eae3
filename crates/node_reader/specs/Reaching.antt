-- What a reader keeps.
use Rattle.std.specs.Prelude.{◌≡◌, Option, Some, None}
use Rattle.text_pos.specs.declared.length.Length.{Length}
use Rattle.tree_defs.specs.Tree.{Tree, Nothing}
use Rattle.bracket_ast.specs.Shapes.{or_nothing}
use Rattle.node_reader.specs.Paths.{IsPlace, root_of, offset_of}
use Rattle.node_reader.specs.Reading.{Reading}
use Rattle.node_reader.specs.declared.place.Place.{Place}
use Rattle.node_reader.specs.declared.reader.Reader.TheInside.{Inside}

abbrev pub reading_of : Inside → Reading
reading_of r = record { tree = or_nothing r.tree.now.root; reached = r.reached }

-- the place where an offset lies in a tree
pub record IsAt (t : Tree) (offset : Length) (p : Place) : Type 0 where
  pub is : IsPlace p
  pub root : root_of p ≡ t
  pub lies : offset_of p ≡ offset

abbrev pub IsFor : Tree → Length → Option Place → Type 0
IsFor t offset None = t ≡ Nothing
IsFor t offset (Some p) = IsAt t offset p

abbrev pub IsReader : Inside → Type 0
IsReader r = IsFor (or_nothing r.tree.now.root) r.reached r.place
