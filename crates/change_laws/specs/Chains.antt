-- Changes that follow one another from a joint on, in both texts.
use Rattle.std.specs.Prelude.{◌≡◌, Bool, true, false, List, [], ◌∷◌, Option, Some, None, not}
use Rattle.text_pos.specs.declared.length.Length.{Length}
use Rattle.change_defs.specs.declared.Joint.{Joint}
use Rattle.change_defs.specs.declared.Placed.{Placed}
use Rattle.change_defs.specs.Changes.{is_less, carried}

-- a change follows a joint: in both texts it doesn't start before the joint nor end before its start, and what lies
-- between the joint and its start is as long in both
pub record Follows (joint : Joint) (p : Placed) : Type 0 where
  pub old_start : is_less p.from.old joint.old ≡ false
  pub new_start : is_less p.from.new joint.new ≡ false
  pub even : p.from.new ≡ carried joint p.from.old
  pub old_end : is_less p.to.old p.from.old ≡ false
  pub new_end : is_less p.to.new p.from.new ≡ false

abbrev pub Chain : Joint → List Placed → Type 0
Chain joint [] = Unit {0}
Chain joint (p ∷ ps) = Follows joint p × Chain p.to ps

-- a length is less than another, if there is another
abbrev pub has_room : Option Length → Length → Bool
has_room None len = true
has_room (Some room) len = is_less len room

-- a length is at most another, if there is another
abbrev pub is_within_room : Option Length → Length → Bool
is_within_room None len = true
is_within_room (Some room) len = not (is_less room len)
