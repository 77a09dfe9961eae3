-- Changes that follow one another in a text, with what isn't changed between them.
use Rattle.std.specs.Prelude.{◌≡◌, true, false, List, [], ◌∷◌}
use Rattle.text_pos.specs.declared.length.Length.{Length}
use Rattle.change_defs.specs.declared.Joint.{Joint}
use Rattle.change_defs.specs.declared.Placed.{Placed}
use Rattle.change_defs.specs.Changes.{is_less, carried}

-- in the old text, or in the new one
abbrev pub Side : Type 0
Side = Joint → Length

abbrev pub in_old : Side
in_old joint = joint.old

abbrev pub in_new : Side
in_new joint = joint.new

-- no change ends before its start, and each starts behind the end of the one before, the first behind a place
abbrev pub RiseBehind : Side → Length → List Placed → Type 0
RiseBehind side at [] = Unit {0}
RiseBehind side at (p ∷ ps) = (is_less at (side p.from) ≡ true) × (is_less (side p.to) (side p.from) ≡ false)
    × RiseBehind side (side p.to) ps

-- the first may start anywhere
abbrev pub Rise : Side → List Placed → Type 0
Rise side [] = Unit {0}
Rise side (p ∷ ps) = (is_less (side p.to) (side p.from) ≡ false) × RiseBehind side (side p.to) ps

-- what lies between two changes, and between a joint and the first of them, is as long in both texts
abbrev pub AreEven : Joint → List Placed → Type 0
AreEven joint [] = Unit {0}
AreEven joint (p ∷ ps) = (is_less p.from.old joint.old ≡ false) × (p.from.new ≡ carried joint p.from.old) × AreEven p.to ps
