-- Where changes that rise are parted by a place of the new text.
use Rattle.std.proofs.Common.{◌≡◌, ℕ, zero, suc, ◌-◌, ◌<◌, ◌≤◌, Bool, true, false, not, List, [], ◌∷◌, length, map}
use Rattle.std.proofs.Common.{◌&&◌, ◌||◌, if◌then◌else◌}
use Rattle.std.proofs.Common.{take, slice_get, slice_index_or, refl, sym, ap, ◌∙◌, subst, arith}
use Rattle.std.specs.List.{find}
use Rattle.std.specs.List.Sorted.{IsPartitionedBy, IsPartitionPoint}
use Rattle.text_pos.specs.declared.length.Length.{Length}
use Rattle.change_defs.specs.declared.Joint.{Joint}
use Rattle.change_defs.specs.declared.Placed.{Placed}
use Rattle.change_defs.specs.Changes.{is_less, end_before, is_inside, turned, turned_joint}
use Rattle.change_laws.specs.Rising.{in_new, RiseBehind, Rise}
use Rattle.change_laws.proofs.Order.{less_then_less, less_then_up, less_not_back}
use Rattle.edit_mapper.specs.Places.{last_end, starts_before}

-- the change doesn't end behind the place
abbrev pub has_ended : Length → Placed → Bool
has_ended at p = not (is_less at p.to.new)

abbrev pub IsPoint : Length → List Placed → ℕ → Type 0
IsPoint at ps n = IsPartitionPoint (λ p. has_ended at p ≡ true) (λ p. has_ended at p ≡ false) ps n

not_true : (b : Bool) → not b ≡ true → b ≡ false
not_true true h = absurd (cc)
not_true false h = refl

not_false : (b : Bool) → not b ≡ false → b ≡ true
not_false true h = refl
not_false false h = absurd (cc)

to_not : (b : Bool) → b ≡ false → not b ≡ true
to_not b h = rw h refl

-- ---- ends rise
ends_behind : (x : Length) (ps : List Placed) (j : ℕ) (d : Placed) → RiseBehind in_new x ps → j < length ps
    → is_less x (slice_index_or ps j d).to.new ≡ true
ends_behind x [] j d rise h = absurd (omega arith)
ends_behind x (p ∷ ps) zero d rise h = less_then_up x p.from.new p.to.new rise.0 rise.1
ends_behind x (p ∷ ps) (suc j) d rise h =
    less_then_less x p.to.new (slice_index_or ps j d).to.new (less_then_up x p.from.new p.to.new rise.0 rise.1)
    (ends_behind p.to.new ps j d rise.2 (omega arith))

-- p ends before q, which ends at or before the place
ended_too : (at : Length) (p q : Placed) → is_less p.to.new q.to.new ≡ true → has_ended at q ≡ true
    → has_ended at p ≡ true
ended_too at p q h k = to_not (is_less at p.to.new) (less_not_back p.to.new at
    (less_then_up p.to.new q.to.new at h (not_true (is_less at q.to.new) k)))

parted_behind : (at x : Length) (ps : List Placed) → RiseBehind in_new x ps → IsPartitionedBy (has_ended at) ps
parted_behind at x [] rise i j d le lt k = absurd (omega arith)
parted_behind at x (p ∷ ps) rise zero zero d le lt k = k
parted_behind at x (p ∷ ps) rise zero (suc j) d le lt k =
    ended_too at p (slice_index_or ps j d) (ends_behind p.to.new ps j d rise.2 (omega arith)) k
parted_behind at x (p ∷ ps) rise (suc i) zero d le lt k = absurd (omega arith)
parted_behind at x (p ∷ ps) rise (suc i) (suc j) d le lt k =
    parted_behind at p.to.new ps rise.2 i j d (omega arith) (omega arith) k

pub parted : (at : Length) (ps : List Placed) → Rise in_new ps → IsPartitionedBy (has_ended at) ps
parted at [] rise i j d le lt k = absurd (omega arith)
parted at (p ∷ ps) rise zero zero d le lt k = k
parted at (p ∷ ps) rise zero (suc j) d le lt k =
    ended_too at p (slice_index_or ps j d) (ends_behind p.to.new ps j d rise.1 (omega arith)) k
parted at (p ∷ ps) rise (suc i) zero d le lt k = absurd (omega arith)
parted at (p ∷ ps) rise (suc i) (suc j) d le lt k =
    parted_behind at p.to.new ps rise.1 i j d (omega arith) (omega arith) k

-- ---- the point in a list and in what follows its first change
point_tail : (at : Length) (p : Placed) (ps : List Placed) (n : ℕ) → IsPoint at (p ∷ ps) (suc n) → IsPoint at ps n
point_tail at p ps n h = (
  λ k d low high. h.0 (suc k) d (omega arith) (omega arith),
  λ k d low high. h.1 (suc k) d (omega arith) (omega arith),
)

none_tail : (at : Length) (p : Placed) (ps : List Placed) → IsPoint at (p ∷ ps) 0 → IsPoint at ps 0
none_tail at p ps h = (
  λ k d low high. absurd (omega arith),
  λ k d low high. h.1 (suc k) d (omega arith) (omega arith),
)

first_ended : (at : Length) (p : Placed) (ps : List Placed) (n : ℕ) → IsPoint at (p ∷ ps) (suc n)
    → is_less at p.to.new ≡ false
first_ended at p ps n h = not_true (is_less at p.to.new) (h.0 0 p (omega arith) (omega arith))

first_later : (at : Length) (p : Placed) (ps : List Placed) → IsPoint at (p ∷ ps) 0 → is_less at p.to.new ≡ true
first_later at p ps h = not_false (is_less at p.to.new) (h.1 0 p (omega arith) (omega arith))

-- ---- what is found there
pub ends_at_point : (at : Length) (joint : Joint) (ps : List Placed) (n : ℕ) → IsPoint at ps n → n ≤ length ps
    → end_before (turned_joint joint) (map turned ps) at ≡ turned_joint (last_end joint (take n ps))
ends_at_point at joint [] zero h le = refl
ends_at_point at joint [] (suc n) h le = absurd (omega arith)
ends_at_point at joint (p ∷ ps) zero h le =
    ap (λ b. end_before (if b then turned_joint joint else turned_joint p.to) (map turned ps) at) (first_later at p ps h)
    ∙ ends_at_point at joint ps zero (none_tail at p ps h) (omega arith)
ends_at_point at joint (p ∷ ps) (suc n) h le =
    ap (λ b. end_before (if b then turned_joint joint else turned_joint p.to) (map turned ps) at) (first_ended at p ps n h)
    ∙ ends_at_point at p.to ps n (point_tail at p ps n h) (omega arith)

pub found_at_point : (at : Length) (ps : List Placed) (n : ℕ) → IsPoint at ps n → n ≤ length ps
    → find (λ p. is_less at p.to.new) ps ≡ slice_get ps n
found_at_point at [] zero h le = refl
found_at_point at [] (suc n) h le = absurd (omega arith)
found_at_point at (p ∷ ps) zero h le = rw (first_later at p ps h) refl
found_at_point at (p ∷ ps) (suc n) h le =
    rw (first_ended at p ps n h) (found_at_point at ps n (point_tail at p ps n h) (omega arith))

-- behind a place no change starts before it
none_starts : (at x : Length) (ps : List Placed) → RiseBehind in_new x ps → is_less at x ≡ true
    → is_inside (map turned ps) at ≡ false
none_starts at x [] rise h = refl
none_starts at x (p ∷ ps) rise h = let early = less_then_less at x p.from.new h rise.0 in
    ap (λ b. (b && is_less at p.to.new) || is_inside (map turned ps) at) (less_not_back at p.from.new early)
    ∙ none_starts at p.to.new ps rise.2 (less_then_up at p.from.new p.to.new early rise.1)

and_true_or : (a : Bool) → ((a && true) || false) ≡ a
and_true_or true = refl
and_true_or false = refl

and_false_or : (a b : Bool) → ((a && false) || b) ≡ b
and_false_or true b = refl
and_false_or false b = refl

inside_first : (at : Length) (p : Placed) (ps : List Placed) → RiseBehind in_new p.to.new ps
    → is_less at p.to.new ≡ true → is_inside (map turned (p ∷ ps)) at ≡ is_less p.from.new at
inside_first at p ps rise h = ap (λ b. (is_less p.from.new at && b) || is_inside (map turned ps) at) h
    ∙ ap (λ b. (is_less p.from.new at && true) || b) (none_starts at p.to.new ps rise h)
    ∙ and_true_or (is_less p.from.new at)

inside_later : (at : Length) (p : Placed) (ps : List Placed) → is_less at p.to.new ≡ false
    → is_inside (map turned (p ∷ ps)) at ≡ is_inside (map turned ps) at
inside_later at p ps h = ap (λ b. (is_less p.from.new at && b) || is_inside (map turned ps) at) h
    ∙ and_false_or (is_less p.from.new at) (is_inside (map turned ps) at)

inside_behind : (at x : Length) (ps : List Placed) (n : ℕ) → RiseBehind in_new x ps → IsPoint at ps n → n ≤ length ps
    → is_inside (map turned ps) at ≡ starts_before (slice_get ps n) at
inside_behind at x [] zero rise h le = refl
inside_behind at x [] (suc n) rise h le = absurd (omega arith)
inside_behind at x (p ∷ ps) zero rise h le = inside_first at p ps rise.2 (first_later at p ps h)
inside_behind at x (p ∷ ps) (suc n) rise h le = inside_later at p ps (first_ended at p ps n h)
    ∙ inside_behind at p.to.new ps n rise.2 (point_tail at p ps n h) (omega arith)

pub inside_at_point : (at : Length) (ps : List Placed) (n : ℕ) → Rise in_new ps → IsPoint at ps n → n ≤ length ps
    → is_inside (map turned ps) at ≡ starts_before (slice_get ps n) at
inside_at_point at [] zero rise h le = refl
inside_at_point at [] (suc n) rise h le = absurd (omega arith)
inside_at_point at (p ∷ ps) zero rise h le = inside_first at p ps rise.1 (first_later at p ps h)
inside_at_point at (p ∷ ps) (suc n) rise h le = inside_later at p ps (first_ended at p ps n h)
    ∙ inside_behind at p.to.new ps n rise.1 (point_tail at p ps n h) (omega arith)

-- the place isn't before the end of the changes that have ended
pub ended_before : (at : Length) (joint : Joint) (ps : List Placed) (n : ℕ) → is_less at joint.new ≡ false → IsPoint at ps n
    → n ≤ length ps → is_less at (last_end joint (take n ps)).new ≡ false
ended_before at joint [] zero k h le = k
ended_before at joint [] (suc n) k h le = absurd (omega arith)
ended_before at joint (p ∷ ps) zero k h le = k
ended_before at joint (p ∷ ps) (suc n) k h le =
    ended_before at p.to ps n (first_ended at p ps n h) (point_tail at p ps n h) (omega arith)

-- ---- the joint by its number
pub last_by_number : (joint : Joint) (ps : List Placed) (n : ℕ) (d : Placed) → n < length ps
    → last_end joint (take (suc n) ps) ≡ (slice_index_or ps n d).to
last_by_number joint [] n d h = absurd (omega arith)
last_by_number joint (p ∷ ps) zero d h = refl
last_by_number joint (p ∷ ps) (suc n) d h = last_by_number p.to ps n d (omega arith)

pub last_before : (joint : Joint) (ps : List Placed) (n : ℕ) (d : Placed) → 0 < n → n ≤ length ps
    → (slice_index_or ps (n - 1) d).to ≡ last_end joint (take n ps)
last_before joint ps n d some h = let one_more : suc (n - 1) ≡ n = omega arith in
    sym (subst (λ k. last_end joint (take k ps) ≡ (slice_index_or ps (n - 1) d).to) one_more
    (last_by_number joint ps (n - 1) d (omega arith)))
