-- How the pieces of a list lie, one behind another.
use Rattle.std.specs.Prelude.{◌≡◌, ℕ, ◌+◌, ◌<◌, ◌≤◌, List, [], ◌∷◌, length}
use Rattle.std.specs.List.{flat_map}
use Rattle.line_list.specs.declared.pieces.Part.{Part}
use Rattle.line_list.specs.declared.pieces.TheConstants.{MOST_IN_PIECE}

module _ {X : Type 0} where
  -- the items of a piece
  abbrev pub part_items : Part X → List X
  part_items part = part.items.value.items

  -- the items of pieces
  abbrev pub items_of : List (Part X) → List X
  items_of parts = flat_map part_items parts

  -- each piece begins where the pieces before it end, and has some items and no more than a piece may have
  abbrev pub IsLaid : ℕ → List (Part X) → Type 0
  IsLaid at [] = Unit {0}
  IsLaid at (part ∷ parts) = (part.start ≡ at) × (0 < length (part_items part))
      × (length (part_items part) ≤ MOST_IN_PIECE) × IsLaid (at + length (part_items part)) parts

  -- a piece and the next one have more items together than one may have
  abbrev pub IsFullWith : Part X → List (Part X) → Type 0
  IsFullWith part [] = Unit {0}
  IsFullWith part (next ∷ parts) = MOST_IN_PIECE < length (part_items part) + length (part_items next)

  -- any two neighbours have more items together than one may have
  abbrev pub AreFull : List (Part X) → Type 0
  AreFull [] = Unit {0}
  AreFull (part ∷ parts) = IsFullWith part parts × AreFull parts
