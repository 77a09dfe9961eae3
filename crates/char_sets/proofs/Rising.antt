-- Ranges that rise.
use Rattle.std.proofs.Common.{◌≡◌, ℕ, zero, suc, ◌+◌, ◌<◌, ◌≤◌, true, false, ◌&&◌, nat_le, List, [], ◌∷◌, ◌++◌}
use Rattle.std.proofs.Common.{length, drop, get_or, refl, sym, ap, ◌∙◌, arith, leb-true, le-leb, not-suc-le-zero}
use Rattle.std.proofs.Common.{le_of_suc-le-suc, le_refl, add-one, drop-cons}
use Rattle.std.proofs.lemmas.Bool.{and_parts, and_left, and_right, lt-leb}
use Rattle.char_sets.specs.Ranges.{in_range, in_set, is_range_from, rises}
use Rattle.char_sets.specs.declared.char_set.CharRange.{CharRange}

-- what it says of the first range and of the others
pub record RisesParts (n : ℕ) (r : CharRange) (rs : List CharRange) : Type 0 where
  pub from : n ≤ r.first
  pub ordered : r.first ≤ r.last
  pub within : r.last ≤ 1_114_111
  pub rest : rises (r.last + 1) rs ≡ true

pub rises-parts : (n : ℕ) (r : CharRange) (rs : List CharRange) → rises n (r ∷ rs) ≡ true → RisesParts n r rs
unfolding rises
rises-parts n r rs h =
    let parts = and_parts (is_range_from n r) (rises (r.last + 1) rs) h in
    let head = and_parts (nat_le n r.first) (nat_le r.first r.last && nat_le r.last 1_114_111) parts.0 in
    let more = and_parts (nat_le r.first r.last) (nat_le r.last 1_114_111) head.1 in
    record {
      from = leb-true n r.first head.0;
      ordered = leb-true r.first r.last more.0;
      within = leb-true r.last 1_114_111 more.1;
      rest = parts.1;
    }

pub rises-cons : (n : ℕ) (r : CharRange) (rs : List CharRange) → RisesParts n r rs → rises n (r ∷ rs) ≡ true
unfolding rises
rises-cons n r rs h =
    rw (le-leb n r.first h.from, le-leb r.first r.last h.ordered, le-leb r.last 1_114_111 h.within) h.rest

pub rises-nil : (n : ℕ) → rises n [] ≡ true
unfolding rises
rises-nil n = refl

pub in_range-below : (c : ℕ) (r : CharRange) → c < r.first → in_range c r ≡ false
in_range-below c r h = and_left (nat_le r.first c) (nat_le c r.last) (lt-leb r.first c h)

pub in_range-above : (c : ℕ) (r : CharRange) → r.last < c → in_range c r ≡ false
in_range-above c r h = and_right (nat_le r.first c) (nat_le c r.last) (lt-leb c r.last h)

pub in_range-inside : (c : ℕ) (r : CharRange) → r.first ≤ c → c ≤ r.last → in_range c r ≡ true
in_range-inside c r h k = rw (le-leb r.first c h, le-leb c r.last k) refl

-- no code before the ranges is in them
pub in_set-before : (n : ℕ) (rs : List CharRange) (c : ℕ) → rises n rs ≡ true → c < n → in_set rs c ≡ false
in_set-before n [] c h lt = refl
in_set-before n (r ∷ rs) c h lt =
    let parts = rises-parts n r rs h in
    let from = parts.from in
    let ordered = parts.ordered in
    rw (in_range-below c r (omega arith)) (in_set-before (r.last + 1) rs c parts.rest (omega arith))

-- each range ends at the first place or after it
pub last-above : (n : ℕ) (rs : List CharRange) (k : ℕ) (d : CharRange) → rises n rs ≡ true → k < length rs
    → n ≤ (get_or rs k d).last
last-above n [] k d h lt = absurd (not-suc-le-zero lt)
last-above n (r ∷ rs) zero d h lt =
    let parts = rises-parts n r rs h in
    let from = parts.from in
    let ordered = parts.ordered in
    omega arith
last-above n (r ∷ rs) (suc k) d h lt =
    let parts = rises-parts n r rs h in
    let from = parts.from in
    let ordered = parts.ordered in
    let later : r.last + 1 ≤ (get_or rs k d).last = last-above (r.last + 1) rs k d parts.rest (le_of_suc-le-suc lt) in
    omega arith

-- past the end of a range, the ranges up to it don't count
pub in_set-past : (n : ℕ) (rs : List CharRange) (k c : ℕ) (d : CharRange) → rises n rs ≡ true → k < length rs
    → (get_or rs k d).last < c → in_set rs c ≡ in_set (drop (suc k) rs) c
in_set-past n [] k c d h lt above = absurd (not-suc-le-zero lt)
in_set-past n (r ∷ rs) zero c d h lt above = rw (in_range-above c r above) refl
in_set-past n (r ∷ rs) (suc k) c d h lt above =
    let parts = rises-parts n r rs h in
    let place : k < length rs = le_of_suc-le-suc lt in
    let past = last-above (r.last + 1) rs k d parts.rest place in
    let beyond : (get_or rs k d).last < c = above in
    rw (in_range-above c r (omega arith)) (in_set-past (r.last + 1) rs k c d parts.rest place beyond)

-- from a place on, the ranges rise from the range at that place
pub rises-drop : (n : ℕ) (rs : List CharRange) (k : ℕ) (d : CharRange) → rises n rs ≡ true → k < length rs
    → RisesParts n (get_or rs k d) (drop (suc k) rs)
rises-drop n [] k d h lt = absurd (not-suc-le-zero lt)
rises-drop n (r ∷ rs) zero d h lt = rises-parts n r rs h
rises-drop n (r ∷ rs) (suc k) d h lt =
    let parts = rises-parts n r rs h in
    let from = parts.from in
    let ordered = parts.ordered in
    let later = rises-drop (r.last + 1) rs k d parts.rest (le_of_suc-le-suc lt) in
    let after = later.from in
    let within = later.within in
    record { from = omega arith; ordered = later.ordered; within = later.within; rest = later.rest }

-- the first code after all ranges
unfoldable pub after_all : ℕ → List CharRange → ℕ
after_all n [] = n
after_all n (r ∷ rs) = after_all (r.last + 1) rs

pub after_all-nil : (n : ℕ) → after_all n [] ≡ n
unfolding after_all
after_all-nil n = refl

pub after_all-append : (n : ℕ) (rs : List CharRange) (r : CharRange) → after_all n (rs ++ r ∷ []) ≡ r.last + 1
unfolding after_all
after_all-append n [] r = refl
after_all-append n (x ∷ rs) r = after_all-append (x.last + 1) rs r

after_all-from : (n : ℕ) (rs : List CharRange) → rises n rs ≡ true → n ≤ after_all n rs
unfolding after_all
after_all-from n [] h = omega arith
after_all-from n (r ∷ rs) h =
    let parts = rises-parts n r rs h in
    let from = parts.from in
    let ordered = parts.ordered in
    let later = after_all-from (r.last + 1) rs parts.rest in
    omega arith

-- no code after all ranges is in them
pub in_set-after : (n : ℕ) (rs : List CharRange) (c : ℕ) → rises n rs ≡ true → after_all n rs ≤ c → in_set rs c ≡ false
unfolding after_all
in_set-after n [] c h le = refl
in_set-after n (r ∷ rs) c h le =
    let parts = rises-parts n r rs h in
    let later = after_all-from (r.last + 1) rs parts.rest in
    let beyond : after_all (r.last + 1) rs ≤ c = le in
    rw (in_range-above c r (omega arith)) (in_set-after (r.last + 1) rs c parts.rest beyond)

-- one more range at the end
pub rises-append : (n : ℕ) (rs : List CharRange) (r : CharRange) → rises n rs ≡ true → after_all n rs ≤ r.first
    → r.first ≤ r.last → r.last ≤ 1_114_111 → rises n (rs ++ r ∷ []) ≡ true
unfolding after_all
rises-append n [] r h from ordered within =
    rises-cons n r [] (record { from = from; ordered = ordered; within = within; rest = rises-nil (r.last + 1) })
rises-append n (x ∷ rs) r h from ordered within =
    let parts = rises-parts n x rs h in
    rises-cons n x (rs ++ r ∷ [])
    (record {
      from = parts.from;
      ordered = parts.ordered;
      within = parts.within;
      rest = rises-append (x.last + 1) rs r parts.rest from ordered within;
    })

pub in_set-beyond : (rs : List CharRange) (k c : ℕ) (d : CharRange) → rises 0 rs ≡ true → k < length rs
    → (get_or rs k d).last < c → in_set rs c ≡ in_set (drop (k + 1) rs) c
in_set-beyond rs k c d h lt above = in_set-past 0 rs k c d h lt above ∙ ap (λ m. in_set (drop m rs) c) (sym (add-one k))

-- where the ranges before a place don't count, a code before the range at that place is in none
pub in_set-gap : (rs : List CharRange) (k c : ℕ) (d : CharRange) → rises 0 rs ≡ true → k < length rs → in_set rs c
    ≡ in_set (drop k rs) c → c < (get_or rs k d).first → in_set rs c ≡ false
in_set-gap rs k c d h lt here gap =
    let r = get_or rs k d in
    let parts = rises-drop 0 rs k d h lt in
    let rising : rises r.first (r ∷ drop (suc k) rs) ≡ true =
    rises-cons r.first r (drop (suc k) rs) (record
    { from = le_refl r.first; ordered = parts.ordered; within = parts.within; rest = parts.rest }) in
    here ∙ ap (λ l. in_set l c) (drop-cons rs k d lt) ∙ in_set-before r.first (r ∷ drop (suc k) rs) c rising gap

pub rises-one : (r : CharRange) → r.first ≤ r.last → r.last ≤ 1_114_111 → rises 0 (r ∷ []) ≡ true
rises-one r ordered within =
    rises-cons 0 r [] (record { from = omega arith; ordered = ordered; within = within; rest = rises-nil (r.last + 1) })
