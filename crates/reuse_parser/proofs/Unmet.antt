-- Where a piece of the old text lies in the new one that no change meets or touches.
use Rattle.std.proofs.Common.{◌≡◌, ◌⊎◌, inl, inr, ◌||◌, if◌then◌else◌, List, [], ◌∷◌, map, Bool, true, false, Some, None}
use Rattle.std.proofs.Common.{refl, sym, ap, ◌∙◌, subst, arith}
use Rattle.std.proofs.lemmas.Bool.Decides.{nat_tests}
use Rattle.std.specs.List.{list_all}
use Rattle.text_pos.specs.declared.length.Length.{Length}
use Rattle.text_pos.specs.Lengths.{plus}
use Rattle.tree_defs.specs.Shape.{length_of}
use Rattle.tree_defs.specs.Ends.{fits, IsInLine}
use Rattle.change_defs.specs.declared.Change.{Change}
use Rattle.change_defs.specs.declared.Joint.{Joint}
use Rattle.change_defs.specs.declared.Placed.{Placed}
use Rattle.change_defs.specs.Changes.{is_less, rest_of, first_joint, carried, end_before, is_inside, turned, turned_joint}
use Rattle.change_defs.specs.Changes.{are_in_order, placed, back, image, origin, before, distance, if_fits}
use Rattle.change_laws.specs.Chains.{Chain, has_room}
use Rattle.change_laws.proofs.Order.{less_not_back, less_then_up, up_then_less, plus_rest, plus_not_less, plus_less}
use Rattle.change_laws.proofs.Chains.{carried_back, carried_plus, carried_order, carried_not_before, chain_of, nothing_before}
use Rattle.change_laws.proofs.Chains.{turned_chain, passed, none_passed, image_not_before, outside_late, outside_early}
use Rattle.change_laws.proofs.Chains.{none_inside}
use Rattle.change_laws.proofs.Rooms.{end_behind, next_gap, gap_now, gap_later, behind_later}
use Rattle.reuse_defs.specs.Settled.{ClosedPair, node_of, is_unmet}
use Rattle.reuse_parser.proofs.Moved.{and_left, and_right}

or_true : (a b : Bool) → (a || b) ≡ true → (a ≡ true) ⊎ (b ≡ true)
or_true true b h = inl refl
or_true false b h = inr h

-- no change meets or touches a piece: each ends before it starts, or starts behind its end
abbrev pub AreApart : List Placed → Length → Length → Type 0
AreApart ps from to = list_all (λ (p : Placed). is_less p.to.old from || is_less to p.from.old) ps ≡ true

-- a place of the new text is that of an old one, and so much room is there
pub record IsThere (joint : Joint) (ps : List Placed) (at from len : Length) : Type 0 where
  pub outside : is_inside (map turned ps) at ≡ false
  pub back_there : carried (end_behind joint ps at) at ≡ from
  pub room : has_room (next_gap ps at) len ≡ true

abbrev there : Joint → List Placed → Length → Length
there joint ps from = carried (end_before joint ps from) from

there_now : (joint : Joint) (p : Placed) (ps : List Placed) (from len : Length) → Chain joint (p ∷ ps)
    → is_less from joint.old ≡ false → is_less (plus from len) p.from.old ≡ true
    → IsThere joint (p ∷ ps) (carried joint from) from len
there_now joint p ps from len c up far =
    let at = carried joint from in
    let less : is_less from p.from.old ≡ true =
    up_then_less from (plus from len) p.from.old (plus_not_less from len) far in
    let before_start : is_less at p.from.new ≡ true =
    ap (λ l. is_less at l) c.0.even ∙ carried_order joint from p.from.old up c.0.old_start ∙ less in
    let before_end : is_less at p.to.new ≡ true = less_then_up at p.from.new p.to.new before_start c.0.new_end in
    let at_from : is_less at joint.new ≡ false = carried_not_before joint from in
    let start_up : is_less p.from.new at ≡ false = less_not_back at p.from.new before_start in
    let back_at : carried (turned_joint joint) at ≡ from = carried_back joint from up in
    let order : is_less len (rest_of p.from.new at) ≡ is_less (plus from len) p.from.old =
    sym (plus_less at len (rest_of p.from.new at))
    ∙ ap (λ l. is_less (plus at len) l) (plus_rest at p.from.new start_up ∙ c.0.even)
    ∙ ap (λ l. is_less l (carried joint p.from.old)) (sym (carried_plus joint at len at_from)
    ∙ ap (λ l. carried joint (plus l len)) back_at)
    ∙ carried_order joint (plus from len) p.from.old (later joint from len up) c.0.old_start in
    record {
      outside = outside_early (turned p) (map turned ps) at start_up
          (none_inside (turned_joint p.to) (map turned ps) at (turned_chain p.to ps c.1)
          (less_not_back at p.to.new before_end));
      back_there = ap (λ (j : Joint). carried j at)
          (none_passed (turned_joint joint) (turned p) (map turned ps) at (turned_chain joint (p ∷ ps) c) before_end)
          ∙ back_at;
      room = subst (λ o. has_room o len ≡ true) (sym (gap_now p ps at before_end)) (order ∙ far);
    }
  where
    later : (joint : Joint) (from len : Length) → is_less from joint.old ≡ false
        → is_less (plus from len) joint.old ≡ false
    later joint from len up = grind (arith, nat_tests)

is_there : (joint : Joint) (ps : List Placed) (from len : Length) → Chain joint ps → is_less from joint.old ≡ false
    → AreApart ps from (plus from len) → IsThere joint ps (there joint ps from) from len
is_there joint [] from len c up apart = record { outside = refl; back_there = carried_back joint from up; room = refl }
is_there joint (p ∷ ps) from len c up apart =
    let rest = and_right (is_less p.to.old from || is_less (plus from len) p.from.old)
    (list_all (λ (q : Placed). is_less q.to.old from || is_less (plus from len) q.from.old) ps) apart in
    elim (or_true (is_less p.to.old from) (is_less (plus from len) p.from.old)
    (and_left (is_less p.to.old from || is_less (plus from len) p.from.old)
    (list_all (λ (q : Placed). is_less q.to.old from || is_less (plus from len) q.from.old) ps) apart)) [
      | inl passes ↦
          let late : is_less from p.to.old ≡ false = less_not_back p.to.old from passes in
          let at = there p.to ps from in
          let new_late : is_less at p.to.new ≡ false = image_not_before p.to ps from c.1 late in
          let i : IsThere p.to ps at from len = is_there p.to ps from len c.1 late rest in
          subst (λ (j : Joint). IsThere joint (p ∷ ps) (carried j from) from len) (sym (passed joint p ps from late))
          (record {
            outside = outside_late (turned p) (map turned ps) at new_late i.outside;
            back_there = ap (λ (j : Joint). carried j at) (behind_later joint p ps at new_late) ∙ i.back_there;
            room = subst (λ o. has_room o len ≡ true) (sym (gap_later p ps at new_late)) i.room;
          })
      | inr far ↦
          let early : is_less from p.to.old ≡ true =
          less_then_up from p.from.old p.to.old (up_then_less from (plus from len) p.from.old (plus_not_less from len) far)
          c.0.old_end in
          subst (λ (j : Joint). IsThere joint (p ∷ ps) (carried j from) from len) (sym (none_passed joint p ps from c early))
          (there_now joint p ps from len c up far)
    ]

-- an old place that is of 32 bits, in front of a piece that no change meets or touches
pub record Unmet (changes : List Change) (from len : Length) : Type 0 where
  pub before : before changes (image changes from) ≡ Some from
  pub room : has_room (distance changes (image changes from)) len ≡ true

pub unmet : (changes : List Change) (from len : Length) → are_in_order changes ≡ true → fits from ≡ true
    → AreApart (placed changes) from (plus from len) → Unmet changes from len
unmet changes from len order small apart =
    let i : IsThere first_joint (placed changes) (image changes from) from len =
    is_there first_joint (placed changes) from len (chain_of changes order) (nothing_before from) apart in record {
      before = found (is_inside (back changes) (image changes from)) (origin changes (image changes from)) from i.outside
          i.back_there small;
      room = i.room;
    }
  where
    found : (b : Bool) (o from : Length) → b ≡ false → o ≡ from → fits from ≡ true
        → (if b then None else if_fits o) ≡ Some from
    found b o from h k small = rw (h, k, small) refl

pub pair_unmet : (changes : List Change) (p : ClosedPair) → are_in_order changes ≡ true → IsInLine p.opener
    → fits (plus p.from p.opener) ≡ true → is_unmet (placed changes) p ≡ true
    → Unmet changes p.from (length_of (node_of p))
pair_unmet changes p order opener small apart =
    unmet changes p.from (length_of (node_of p)) order (shorter p.from p.opener opener.0 small) apart
  where
    shorter : (a b : Length) → b.lines ≡ 0 → fits (plus a b) ≡ true → fits a ≡ true
    shorter a b none h = grind (arith, nat_tests)
