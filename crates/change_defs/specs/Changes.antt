-- Changes of a text, in order: each starts behind the end of the one before. All starts are places of the old text, and
-- all changes are made at once. Places are told by their lengths from the text's start.
use Rattle.std.specs.Prelude.{◌-◌, ◌==◌, ◌&&◌, ◌||◌, Bool, true, nat_lt, if◌then◌else◌, List, [], ◌∷◌, map, Option}
use Rattle.std.specs.Prelude.{Some, None}
use Rattle.std.specs.List.{list_any, list_all, find}
use Rattle.text_pos.specs.declared.length.Length.{Length}
use Rattle.text_pos.specs.Lengths.{plus}
use Rattle.tree_defs.specs.Ends.{fits}
use Rattle.change_defs.specs.declared.Change.{Change}
use Rattle.change_defs.specs.declared.Joint.{Joint}
use Rattle.change_defs.specs.declared.Placed.{Placed}

-- ---- lengths

-- by lines, then by columns
abbrev pub is_less : Length → Length → Bool
is_less a b = nat_lt a.lines b.lines || (a.lines == b.lines && nat_lt a.cols b.cols)

-- what is left of a length behind its front
abbrev pub rest_of : Length → Length → Length
rest_of whole front = if whole.lines == front.lines then record { lines = 0; cols = whole.cols - front.cols }
    else record { lines = whole.lines - front.lines; cols = whole.cols }

-- ---- where changes are

-- where both texts start
abbrev pub first_joint : Joint
first_joint = record { old = record { lines = 0; cols = 0 }; new = record { lines = 0; cols = 0 } }

-- the place of the new text that lies as far behind a joint as a place of the old text does
abbrev pub carried : Joint → Length → Length
carried joint at = plus joint.new (rest_of at joint.old)

-- where a change starts and where it ends, if nothing changes between a joint before it and its start
abbrev pub start_joint : Joint → Change → Joint
start_joint joint c = record { old = c.start; new = carried joint c.start }

abbrev pub end_joint : Joint → Change → Joint
end_joint joint c = record { old = plus c.start c.old; new = plus (carried joint c.start) c.new }

abbrev pub placed_at : Joint → Change → Placed
placed_at joint c = record { change = c; from = start_joint joint c; to = end_joint joint c }

abbrev pub placed_from : Joint → List Change → List Placed
placed_from joint [] = []
placed_from joint (c ∷ cs) = placed_at joint c ∷ placed_from (end_joint joint c) cs

abbrev pub placed : List Change → List Placed
placed changes = placed_from first_joint changes

-- where the last of some changes ends, or else a joint before them
abbrev pub last_joint : Joint → List Change → Joint
last_joint joint [] = joint
last_joint joint (c ∷ cs) = last_joint (end_joint joint c) cs

-- ---- when changes are in order

-- whether a change starts behind the end of the last of others, if there is one
abbrev pub starts_behind : List Change → Change → Bool
starts_behind [] c = true
starts_behind (d ∷ ds) c = is_less (last_joint first_joint (d ∷ ds)).old c.start

-- whether each of the changes starts behind the end of the one before, the first behind that of another change
abbrev pub rise_behind : Change → List Change → Bool
rise_behind before [] = true
rise_behind before (c ∷ cs) = is_less (plus before.start before.old) c.start && rise_behind c cs

abbrev pub are_in_order : List Change → Bool
are_in_order [] = true
are_in_order (c ∷ cs) = rise_behind c cs

-- whether the start and the end of a change, in both texts, are of 32 bits
abbrev pub joint_fits : Joint → Bool
joint_fits joint = fits joint.old && fits joint.new

abbrev pub placed_fits : Placed → Bool
placed_fits p = joint_fits p.from && joint_fits p.to

-- the same of a change behind others
abbrev pub fits_behind : List Change → Change → Bool
fits_behind changes c = placed_fits (placed_at (last_joint first_joint changes) c)

abbrev pub all_fit : List Change → Bool
all_fit changes = list_all placed_fits (placed changes)

-- ---- images

-- the end of the last change that ends at or before an old place, or else a joint before all changes
abbrev pub end_before : Joint → List Placed → Length → Joint
end_before joint [] at = joint
end_before joint (p ∷ ps) at = end_before (if is_less at p.to.old then joint else p.to) ps at

-- whether an old place lies strictly inside a change
abbrev pub is_inside : List Placed → Length → Bool
is_inside ps at = list_any (λ p. is_less p.from.old at && is_less at p.to.old) ps

-- the place of the new text that an old place is
abbrev pub image_by : List Placed → Length → Length
image_by ps at = carried (end_before first_joint ps at) at

abbrev pub image : List Change → Length → Length
image changes at = image_by (placed changes) at

-- ---- back to the old text

abbrev pub turned_joint : Joint → Joint
turned_joint joint = record { old = joint.new; new = joint.old }

-- the change that leads back from the new text to the old one
abbrev pub turned : Placed → Placed
turned p = record {
  change = record { start = p.from.new; old = p.change.new; new = p.change.old };
  from = turned_joint p.from;
  to = turned_joint p.to;
}

abbrev pub back : List Change → List Placed
back changes = map turned (placed changes)

-- the place of the old text that a place of the new text is
abbrev pub origin : List Change → Length → Length
origin changes at = image_by (back changes) at

abbrev pub if_fits : Length → Option Length
if_fits at = if fits at then Some at else None

-- the same where there is one, and where it is of 32 bits
abbrev pub before : List Change → Length → Option Length
before changes at = if is_inside (back changes) at then None else if_fits (origin changes at)

-- how far behind a place of the new text a change starts there
abbrev pub gap : Length → Option Placed → Option Length
gap at None = None
gap at (Some p) = Some (rest_of p.from.new at)

-- how far behind a place of the new text the first change starts whose new end lies behind that place
abbrev pub distance : List Change → Length → Option Length
distance changes at = gap at (find (λ p. is_less at p.to.new) (placed changes))
