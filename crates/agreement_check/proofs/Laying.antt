-- One change more, with its places.
use Rattle.std.proofs.Common.{◌≡◌, ℕ, zero, suc, ◌<◌, true, false, List, [], ◌∷◌, ◌++◌, length, take, drop, slice_index_or}
use Rattle.std.proofs.Common.{refl, sym, ap, ◌∙◌, subst, arith}
use Rattle.std.specs.List.{list_all}
use Rattle.std.proofs.lemmas.Bool.{true≢false}
use Rattle.text_pos.specs.Lengths.{plus}
use Rattle.change_defs.specs.declared.Change.{Change}
use Rattle.change_defs.specs.declared.Joint.{Joint}
use Rattle.change_defs.specs.declared.Placed.{Placed}
use Rattle.change_defs.specs.Changes.{is_less, first_joint, last_joint, end_joint, placed_at, placed_from, placed}
use Rattle.change_defs.specs.Changes.{placed_fits, all_fit, rise_behind, are_in_order}
use Rattle.change_laws.proofs.Placing.{both_true, placed_more, last_more}

pub places_after : (joint : Joint) (spans new : List Change) (places after : List Placed) (p : Placed) (c : Change)
    → new ≡ spans ++ c ∷ [] → after ≡ places ++ p ∷ [] → places ≡ placed spans → p ≡ placed_at joint c
    → joint ≡ last_joint first_joint spans → after ≡ placed new
places_after joint spans new places after p c n a s is e =
    a ∙ ap (λ qs. qs ++ p ∷ []) s ∙ ap (λ q. placed spans ++ q ∷ []) (is ∙ ap (λ j. placed_at j c) e)
    ∙ sym (placed_more first_joint spans c) ∙ ap placed (sym n)

pub joint_after : (joint : Joint) (spans new : List Change) (p : Placed) (c : Change) → new ≡ spans ++ c ∷ []
    → p ≡ placed_at joint c → joint ≡ last_joint first_joint spans → p.to ≡ last_joint first_joint new
joint_after joint spans new p c n is e =
    ap (λ (q : Placed). q.to) is ∙ ap (λ j. end_joint j c) e ∙ sym (last_more first_joint spans c)
    ∙ ap (λ l. last_joint first_joint l) (sym n)

-- ---- why changes have no places

behind_last : (joint : Joint) (before : Change) (front rest : List Change) (c : Change)
    → plus before.start before.old ≡ joint.old → rise_behind before (front ++ c ∷ rest) ≡ true
    → is_less (last_joint joint front).old c.start ≡ true
behind_last joint before [] rest c e h = subst (λ l. is_less l c.start ≡ true) e
    (both_true (is_less (plus before.start before.old) c.start) (rise_behind c rest) h).0
behind_last joint before (d ∷ ds) rest c e h = behind_last (end_joint joint d) d ds rest c refl
    (both_true (is_less (plus before.start before.old) d.start) (rise_behind d (ds ++ c ∷ rest)) h).1

-- a change that doesn't start behind the last of those before it
not_in_order : (places : List Placed) (front rest all : List Change) (joint : Joint) (c : Change) → places ≡ placed front
    → 0 < length places → joint ≡ last_joint first_joint front → is_less joint.old c.start ≡ false
    → front ++ c ∷ rest ≡ all → are_in_order all ≡ true → ⊥
not_in_order places [] rest all joint c e some j h is order = absurd (omega (arith, ap length e, some))
not_in_order places (d ∷ ds) rest all joint c e some j h is order =
    let risen : are_in_order ((d ∷ ds) ++ c ∷ rest) ≡ true = ap are_in_order is ∙ order in
    let behind = behind_last (end_joint first_joint d) d ds rest c refl risen in
    true≢false (sym behind ∙ sym (ap (λ (k : Joint). is_less k.old c.start) j) ∙ h)

fits_at : (joint : Joint) (front rest : List Change) (c : Change)
    → list_all placed_fits (placed_from joint (front ++ c ∷ rest)) ≡ true
    → placed_fits (placed_at (last_joint joint front) c) ≡ true
fits_at joint [] rest c h = (both_true (placed_fits (placed_at joint c))
    (list_all placed_fits (placed_from (end_joint joint c) rest)) h).0
fits_at joint (d ∷ ds) rest c h = fits_at (end_joint joint d) ds rest c
    (both_true (placed_fits (placed_at joint d))
    (list_all placed_fits (placed_from (end_joint joint d) (ds ++ c ∷ rest))) h).1

-- a change whose places aren't of 32 bits
not_all_fit : (front rest all : List Change) (joint : Joint) (c : Change) → joint ≡ last_joint first_joint front
    → placed_fits (placed_at joint c) ≡ false → front ++ c ∷ rest ≡ all → all_fit all ≡ true → ⊥
not_all_fit front rest all joint c j h is fit =
    let all_of : all_fit (front ++ c ∷ rest) ≡ true = ap all_fit is ∙ fit in
    true≢false (sym (fits_at first_joint front rest c all_of)
    ∙ sym (ap (λ (k : Joint). placed_fits (placed_at k c)) j) ∙ h)

-- a list is what lies before an element, that element, and what lies behind it
split_here : (all : List Change) (i : ℕ) (d : Change) → i < length all
    → take i all ++ slice_index_or all i d ∷ drop (suc i) all ≡ all
split_here [] i d h = absurd (omega (arith, h))
split_here (x ∷ xs) zero d h = refl
split_here (x ∷ xs) (suc i) d h = ap (λ l. x ∷ l) (split_here xs i d (omega (arith, h)))

pub none_in_order : (places : List Placed) (front all : List Change) (i : ℕ) (joint : Joint) (d : Change) → places ≡ placed front
    → 0 < length places → joint ≡ last_joint first_joint front → is_less joint.old (slice_index_or all i d).start ≡ false
    → front ≡ take i all → i < length all → are_in_order all ≡ true → ⊥
none_in_order places front all i joint d e some j h is below order =
    not_in_order places front (drop (suc i) all) all joint (slice_index_or all i d) e some j h
    (ap (λ l. l ++ slice_index_or all i d ∷ drop (suc i) all) is ∙ split_here all i d below) order

pub none_fit : (front all : List Change) (i : ℕ) (joint : Joint) (d : Change) → joint ≡ last_joint first_joint front
    → placed_fits (placed_at joint (slice_index_or all i d)) ≡ false → front ≡ take i all → i < length all
    → all_fit all ≡ true → ⊥
none_fit front all i joint d j h is below fit =
    not_all_fit front (drop (suc i) all) all joint (slice_index_or all i d) j h
    (ap (λ l. l ++ slice_index_or all i d ∷ drop (suc i) all) is ∙ split_here all i d below) fit
