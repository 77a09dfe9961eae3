-- Starts and ends of changes.
use Rattle.std.proofs.Common.{◌≡◌, ℕ, zero, suc, true, false, List, [], ◌∷◌, map, slice_get, Some}
use Rattle.std.proofs.Common.{refl, sym, ap, ◌∙◌, subst}
use Rattle.text_pos.specs.declared.length.Length.{Length}
use Rattle.text_pos.specs.Lengths.{plus}
use Rattle.tree_defs.specs.Shape.{no_length}
use Rattle.tree_defs.proofs.Lengths.{plus_none}
use Rattle.change_defs.specs.declared.Joint.{Joint}
use Rattle.change_defs.specs.declared.Placed.{Placed}
use Rattle.change_defs.specs.Changes.{is_less, rest_of, first_joint, carried, placed, image, end_before}
use Rattle.change_defs.specs.Changes.{turned, turned_joint}
use Rattle.change_laws.specs.Rising.{in_old, in_new, RiseBehind, Rise}
use Rattle.change_laws.specs.Chains.{Chain}
use Rattle.change_laws.specs.EdgeLaws.{EndLaw, NewStartLaw, ForthLaw}
use Rattle.change_laws.proofs.Order.{less_not_back, less_then_less, less_then_up, up_then_less, up_then_up, not_less_itself, rest_plus}
use Rattle.change_laws.proofs.Placing.{old_rise, new_rise}
use Rattle.change_laws.proofs.Chains.{chain_of, carried_back, passed, not_passed}
use Rattle.change_laws.proofs.Rooms.{end_behind, behind_now, behind_later}
use Rattle.change_laws.proofs.PlaceLaws.{room_law}

-- at or before a place no change ends that rises behind it
none_ends_behind : (joint : Joint) (x : Length) (ps : List Placed) (at : Length) → RiseBehind in_old x ps
    → is_less x at ≡ false → end_before joint ps at ≡ joint
none_ends_behind joint x [] at r h = refl
none_ends_behind joint x (p ∷ ps) at r h =
    let early : is_less at p.to.old ≡ true =
    less_then_up at p.from.old p.to.old (up_then_less at x p.from.old h r.0) r.1 in
    not_passed joint p ps at early
    ∙ none_ends_behind joint p.to.old ps at r.2 (less_not_back at p.to.old early)

end_of_behind : (x : Length) (ps : List Placed) (n : ℕ) (p : Placed) → RiseBehind in_old x ps → slice_get ps n ≡ Some p
    → is_less x p.to.old ≡ true
end_of_behind x [] n p r h = absurd (cc)
end_of_behind x (q ∷ qs) zero p r h = let same : q ≡ p = cc in
    subst (λ (l : Placed). is_less x l.to.old ≡ true) same (less_then_up x q.from.old q.to.old r.0 r.1)
end_of_behind x (q ∷ qs) (suc n) p r h =
    less_then_less x q.to.old p.to.old (less_then_up x q.from.old q.to.old r.0 r.1) (end_of_behind q.to.old qs n p r.2 h)

end_there : (joint : Joint) (q : Placed) (qs : List Placed) (n : ℕ) (p : Placed) → RiseBehind in_old q.to.old qs
    → slice_get (q ∷ qs) n ≡ Some p → end_before joint (q ∷ qs) p.to.old ≡ p.to
end_there joint q qs zero p r h = let same : q ≡ p = cc in
    subst (λ (l : Placed). end_before joint (q ∷ qs) l.to.old ≡ l.to) same
    (passed joint q qs q.to.old (not_less_itself q.to.old)
    ∙ none_ends_behind q.to q.to.old qs q.to.old r (not_less_itself q.to.old))
end_there joint q [] (suc n) p r h = absurd (cc)
end_there joint q (s ∷ ss) (suc n) p r h =
    passed joint q (s ∷ ss) p.to.old (less_not_back q.to.old p.to.old (end_of_behind q.to.old (s ∷ ss) n p r h))
    ∙ end_there q.to s ss n p r.2 h

end_in : (joint : Joint) (ps : List Placed) (n : ℕ) (p : Placed) → Rise in_old ps → slice_get ps n ≡ Some p
    → end_before joint ps p.to.old ≡ p.to
end_in joint [] n p r h = absurd (cc)
end_in joint (q ∷ qs) n p r h = end_there joint q qs n p r.1 h

at_joint : (joint : Joint) → carried joint joint.old ≡ joint.new
at_joint joint = ap (λ l. plus joint.new (rest_of l joint.old)) (sym (plus_none joint.old))
    ∙ ap (λ l. plus joint.new l) (rest_plus joint.old no_length) ∙ plus_none joint.new

turned_rise_behind : (x : Length) (ps : List Placed) → RiseBehind in_new x ps → RiseBehind in_old x (map turned ps)
turned_rise_behind x [] r = tt
turned_rise_behind x (p ∷ ps) r = (r.0, r.1, turned_rise_behind p.to.new ps r.2)

turned_rise : (ps : List Placed) → Rise in_new ps → Rise in_old (map turned ps)
turned_rise [] r = tt
turned_rise (p ∷ ps) r = (r.0, turned_rise_behind p.to.new ps r.1)

turned_at : (ps : List Placed) (n : ℕ) (p : Placed) → slice_get ps n ≡ Some p → slice_get (map turned ps) n ≡ Some (turned p)
turned_at [] n p h = absurd (cc)
turned_at (q ∷ qs) zero p h = let same : q ≡ p = cc in ap (λ (l : Placed). Some (turned l)) same
turned_at (q ∷ qs) (suc n) p h = turned_at qs n p h

pub end_law : EndLaw
end_law cs n p order h = (
  ap (λ (j : Joint). carried j p.to.old) (end_in first_joint (placed cs) n p (old_rise cs order) h) ∙ at_joint p.to,
  ap (λ (j : Joint). carried j p.to.new)
      (end_in first_joint (map turned (placed cs)) n (turned p) (turned_rise (placed cs) (new_rise cs order)) (turned_at (placed cs) n p h))
      ∙ at_joint (turned_joint p.to),
)

start_not_before : (joint : Joint) (ps : List Placed) (n : ℕ) (p : Placed) → Chain joint ps → slice_get ps n ≡ Some p
    → is_less p.from.new joint.new ≡ false
start_not_before joint [] n p c h = absurd (cc)
start_not_before joint (q ∷ qs) zero p c h = let same : q ≡ p = cc in
    subst (λ (l : Placed). is_less l.from.new joint.new ≡ false) same c.0.new_start
start_not_before joint (q ∷ qs) (suc n) p c h =
    up_then_up joint.new q.to.new p.from.new (up_then_up joint.new q.from.new q.to.new c.0.new_start c.0.new_end)
    (start_not_before q.to qs n p c.1 h)

start_in : (joint : Joint) (ps : List Placed) (n : ℕ) (p : Placed) → Chain joint ps → slice_get ps n ≡ Some p
    → is_less p.from.new p.to.new ≡ true → carried (end_behind joint ps p.from.new) p.from.new ≡ p.from.old
start_in joint [] n p c h some = absurd (cc)
start_in joint (q ∷ qs) zero p c h some = let same : p ≡ q = cc in
    let some_q : is_less q.from.new q.to.new ≡ true = subst (λ (l : Placed). is_less l.from.new l.to.new ≡ true) same some in
    subst (λ (l : Placed). carried (end_behind joint (q ∷ qs) l.from.new) l.from.new ≡ l.from.old) (sym same)
    (ap (λ (j : Joint). carried j q.from.new) (behind_now joint q qs q.from.new c some_q)
    ∙ ap (λ l. carried (turned_joint joint) l) c.0.even ∙ carried_back joint q.from.old c.0.old_start)
start_in joint (q ∷ qs) (suc n) p c h some =
    ap (λ (j : Joint). carried j p.from.new) (behind_later joint q qs p.from.new (start_not_before q.to qs n p c.1 h))
    ∙ start_in q.to qs n p c.1 h some

pub new_start_law : NewStartLaw
new_start_law cs n p order h some = start_in first_joint (placed cs) n p (chain_of cs order) h some

pub forth_law : ForthLaw
forth_law cs at old order h room = ap (λ l. image cs l) (sym (plus_none old))
    ∙ (room_law cs at old no_length order h room).1 ∙ plus_none at
