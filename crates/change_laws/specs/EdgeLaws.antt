-- Laws of the edges of changes: what their starts and ends are in the other text.
use Rattle.std.specs.Prelude.{◌≡◌, ℕ, true, List, slice_get, Some}
use Rattle.text_pos.specs.declared.length.Length.{Length}
use Rattle.change_defs.specs.declared.Change.{Change}
use Rattle.change_defs.specs.declared.Placed.{Placed}
use Rattle.change_defs.specs.Changes.{is_less, are_in_order, placed, image, origin, before, distance}
use Rattle.tree_defs.specs.Shape.{no_length}
use Rattle.change_laws.specs.Chains.{has_room}

-- the ends of each change are the same place, both ways
abbrev pub EndLaw : Type 0
EndLaw = (cs : List Change) (n : ℕ) (p : Placed) → are_in_order cs ≡ true → slice_get (placed cs) n ≡ Some p
    → (image cs p.to.old ≡ p.to.new) × (origin cs p.to.new ≡ p.to.old)

-- the start of a change that puts something in is its old start
abbrev pub NewStartLaw : Type 0
NewStartLaw = (cs : List Change) (n : ℕ) (p : Placed) → are_in_order cs ≡ true → slice_get (placed cs) n ≡ Some p
    → is_less p.from.new p.to.new ≡ true → origin cs p.from.new ≡ p.from.old

-- a place that has an old one is the image of that, unless a change starts there
abbrev pub ForthLaw : Type 0
ForthLaw = (cs : List Change) (at old : Length) → are_in_order cs ≡ true → before cs at ≡ Some old
    → has_room (distance cs at) no_length ≡ true → image cs old ≡ at
