-- What the point between changes tells of a place.
use Rattle.std.proofs.Common.{◌≡◌, ℕ, ◌≤◌, Bool, true, false, List, length, map, take, slice_get, if◌then◌else◌}
use Rattle.std.proofs.Common.{Option, Some, None, IsSome, refl, sym, ap, ◌∙◌, subst}
use Rattle.std.proofs.Common.{arith}
use Rattle.std.proofs.lemmas.Bool.Decides.{nat_tests}
use Rattle.std.specs.List.{find}
use Rattle.text_pos.specs.declared.length.Length.{Length}
use Rattle.text_pos.specs.Lengths.{plus}
use Rattle.change_defs.specs.declared.Change.{Change}
use Rattle.change_defs.specs.declared.Joint.{Joint}
use Rattle.change_defs.specs.declared.Placed.{Placed}
use Rattle.change_defs.specs.Changes.{is_less, rest_of, first_joint, carried, placed, are_in_order, end_before, is_inside}
use Rattle.change_defs.specs.Changes.{turned, back, origin, if_fits, before, gap, distance}
use Rattle.change_laws.specs.Rising.{in_new, Rise}
use Rattle.change_laws.proofs.Placing.{new_rise}
use Rattle.edit_mapper.specs.Places.{last_end, starts_before}
use Rattle.edit_mapper.proofs.Halves.{IsPoint, ends_at_point, found_at_point, inside_at_point, ended_before}

pub rise_there : (qs : List Placed) (ds cs : List Change) → qs ≡ placed ds → ds ≡ cs → are_in_order ds ≡ true → Rise in_new qs
rise_there qs ds cs is of order = subst (λ l. Rise in_new l) (sym is) (new_rise ds order)

-- the changes, their places, and the point between them
pub record Stands (cs : List Change) (qs : List Placed) (at : Length) (n : ℕ) : Type 0 where
  pub places : qs ≡ placed cs
  pub rise : Rise in_new qs
  pub point : IsPoint at qs n
  pub within : n ≤ length qs

pub stands : (qs : List Placed) (ds cs : List Change) (at : Length) (n : ℕ) → qs ≡ placed ds → ds ≡ cs
    → are_in_order ds ≡ true → IsPoint at qs n → n ≤ length qs → Stands cs qs at n
stands qs ds cs at n is of order point within = record {
  places = is ∙ ap (λ l. placed l) of;
  rise = rise_there qs ds cs is of order;
  point = point;
  within = within;
}

inside_is : (cs : List Change) (qs : List Placed) (at : Length) (n : ℕ) → Stands cs qs at n
    → is_inside (back cs) at ≡ starts_before (slice_get qs n) at
inside_is cs qs at n s = ap (λ l. is_inside (map turned l) at) (sym s.places) ∙ inside_at_point at qs n s.rise s.point s.within

origin_is : (cs : List Change) (qs : List Placed) (at : Length) (n : ℕ) (joint : Joint) → Stands cs qs at n
    → joint ≡ last_end first_joint (take n qs) → plus joint.old (rest_of at joint.new) ≡ origin cs at
origin_is cs qs at n joint s is =
    ap (λ (j : Joint). plus j.old (rest_of at j.new)) is
    ∙ ap (λ (j : Joint). carried j at) (sym (ends_at_point at first_joint qs n s.point s.within))
    ∙ ap (λ l. carried (end_before first_joint (map turned l) at) at) s.places

pub none_inside : (cs : List Change) (qs : List Placed) (at : Length) (n : ℕ) (r : Bool) → Stands cs qs at n
    → r ≡ starts_before (slice_get qs n) at → r ≡ true → None ≡ before cs at
none_inside cs qs at n r s is h =
    sym (ap (λ b. if b then None else if_fits (origin cs at)) (inside_is cs qs at n s ∙ sym is ∙ h))

pub old_place : (cs : List Change) (qs : List Placed) (at : Length) (n : ℕ) (r : Bool) (joint : Joint) (rest : Length)
    (found : Option Length) → Stands cs qs at n → r ≡ starts_before (slice_get qs n) at → r ≡ false
    → joint ≡ last_end first_joint (take n qs) → rest ≡ rest_of at joint.new → found ≡ if_fits (plus joint.old rest)
    → found ≡ before cs at
old_place cs qs at n r joint rest found s is h joint_is rest_is found_is =
    found_is ∙ ap (λ l. if_fits (plus joint.old l)) rest_is
    ∙ ap (λ l. if_fits l) (origin_is cs qs at n joint s joint_is)
    ∙ sym (ap (λ b. if b then None else if_fits (origin cs at)) (inside_is cs qs at n s ∙ sym is ∙ h))

before_origin : (at : Length) → is_less at first_joint.new ≡ false
before_origin at = grind (arith, nat_tests)

pub not_before_joint : (cs : List Change) (qs : List Placed) (at : Length) (n : ℕ) (joint : Joint) → Stands cs qs at n
    → joint ≡ last_end first_joint (take n qs) → is_less at joint.new ≡ false
not_before_joint cs qs at n joint s is =
    subst (λ (j : Joint). is_less at j.new ≡ false) (sym is)
    (ended_before at first_joint qs n (before_origin at) s.point s.within)

not_inside : (b : Bool) (o : Option Length) → IsSome (if b then None else o) → b ≡ false
not_inside true o h = absurd (cc)
not_inside false o h = refl

-- the next change doesn't start before a place that has an old one
pub starts_behind_it : (cs : List Change) (qs : List Placed) (at : Length) (n : ℕ) (p : Placed) → Stands cs qs at n
    → IsSome (before cs at) → slice_get qs n ≡ Some p → is_less p.from.new at ≡ false
starts_behind_it cs qs at n p s some is =
    ap (λ o. starts_before o at) (sym is) ∙ sym (inside_is cs qs at n s)
    ∙ not_inside (is_inside (back cs) at) (if_fits (origin cs at)) some

pub distance_is : (cs : List Change) (qs : List Placed) (at : Length) (n : ℕ) (o : Option Placed) → Stands cs qs at n
    → slice_get qs n ≡ o → gap at o ≡ distance cs at
distance_is cs qs at n o s is =
    ap (λ x. gap at x) (sym is ∙ sym (found_at_point at qs n s.point s.within))
    ∙ ap (λ l. gap at (find (λ p. is_less at p.to.new) l)) s.places
