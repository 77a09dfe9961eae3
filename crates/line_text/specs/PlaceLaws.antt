-- A place is in a text exactly where it is the place of one of its offsets, from 0 to its length. That it is so is
-- this project's own.
use Rattle.std.specs.Prelude.{◌≡◌, ℕ, ◌≤◌, List, length, true}
use Rattle.text_pos.specs.declared.length.Pos.{Pos}
use Rattle.text_defs.specs.Place.{holds, offset_of, place_of}

-- the place of an offset is in the text, and its offset is that one
abbrev pub EachOffsetHasItsPlace : Type 0
EachOffsetHasItsPlace = (text : List ℕ) (offset : ℕ) → offset ≤ length text
    → (holds text (place_of text offset) ≡ true) × (offset_of text (place_of text offset) ≡ offset)

-- a place in the text has an offset there, and is the place of that one
abbrev pub EachPlaceHasItsOffset : Type 0
EachPlaceHasItsOffset = (text : List ℕ) (at : Pos) → holds text at ≡ true
    → (offset_of text at ≤ length text) × (place_of text (offset_of text at) ≡ at)
