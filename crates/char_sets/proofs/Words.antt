-- Words whose bits say which of 64 codes are in ranges.
use Rattle.std.proofs.Common.{◌≡◌, ℕ, ◌+◌, ◌-◌, ◌*◌, ◌/◌, ◌%◌, ◌^◌, ◌<◌, ◌≤◌, Bool, true, false, ◌&&◌, ◌||◌, not}
use Rattle.std.proofs.Common.{nat_le, List, [], ◌∷◌, ◌++◌, length, get_or, take, min, max, bit_and, bit_or, refl, sym}
use Rattle.std.proofs.Common.{ap, ap₂, ◌∙◌, arith, inl, inr, le-leb, w64}
use Rattle.std.specs.Int.{bit_at, bit_not}
use Rattle.std.proofs.lemmas.Bool.{and_left, and_right, cases_lt, lt-leb}
use Rattle.std.proofs.lemmas.List.{take_more}
use Rattle.std.proofs.lemmas.List.Folds.{list_any-append}
use Rattle.std.proofs.lemmas.Nat.Bits.{bit_at_and, bit_at_or, bit_at_not, bit_at-zero, bit_at_ones, bit_at_ones_above}
use Rattle.std.proofs.lemmas.Nat.Bits.{bit_at_mask_inside, bit_at_mask_below, ones_shl, ones_shr}
use Rattle.std.proofs.Math.Bool.{or-false}
use Rattle.char_sets.specs.Case.{is_from_to}
use Rattle.char_sets.specs.Ranges.{bit, in_range, in_set, AreBitsOf}
use Rattle.char_sets.specs.declared.char_set.CharRange.{CharRange}
use Rattle.char_sets.proofs.Rising.{in_range-below, in_range-above}

-- two bounds that hold alike
same_bound : (a b c d : ℕ) → (a ≤ b → c ≤ d) → (c ≤ d → a ≤ b) → nat_le a b ≡ nat_le c d
same_bound a b c d to back =
    elim (cases_lt b a) [
      | inl over ↦
          elim (cases_lt d c) [
            | inl out ↦ lt-leb a b over ∙ sym (lt-leb c d out)
            | inr inside ↦ absurd (let below : a ≤ b = back inside in omega arith)
          ]
      | inr under ↦ le-leb a b under ∙ sym (le-leb c d (to under))
    ]

from_to-bits : (low high k : ℕ) → low ≤ high → high < 64 → k < 64
    → min (bit_at (2 ^ 64 - 2 ^ low) k) (bit_at (2 ^ (64 - (63 - high)) - 1) k) ≡ bit (is_from_to low high k)
from_to-bits low high k below within lt =
    elim (cases_lt k low) [
      | inl under ↦
          let out = and_left (nat_le low k) (nat_le k high) (lt-leb low k under) in
          rw (out, bit_at_mask_below low 64 k under) (omega arith)
      | inr from ↦
          elim (cases_lt high k) [
            | inl over ↦
                let past : 64 - (63 - high) ≤ k = omega arith in
                let out = and_right (nat_le low k) (nat_le k high) (lt-leb k high over) in
                rw (out, bit_at_ones_above (64 - (63 - high)) k past) (omega arith)
            | inr to ↦
                let inside : k < 64 - (63 - high) = omega arith in
                rw (
                  le-leb low k from,
                  le-leb k high to,
                  bit_at_mask_inside low 64 k from lt,
                  bit_at_ones
                      (64 - (63 - high)) k inside,
                ) refl
          ]
    ]

-- the bits from one place to another
pub ones-bits : (low high k : ℕ) → low ≤ high → high < 64 → k < 64
    → bit_at (bit_and ((2 ^ 64 - 1) * 2 ^ low % 2 ^ 64) ((2 ^ 64 - 1) / 2 ^ (63 - high))) k
    ≡ bit (is_from_to low high k)
ones-bits low high k below within lt =
    bit_at_and ((2 ^ 64 - 1) * 2 ^ low % 2 ^ 64) ((2 ^ 64 - 1) / 2 ^ (63 - high)) k
    ∙ ap₂ min (ap (λ n. bit_at n k) (ones_shl 64 low (omega arith)))
    (ap (λ n. bit_at n k) (ones_shr 64 (63 - high) (omega arith)))
    ∙ from_to-bits low high k below within lt

pub outside-bits : (range : CharRange) (first k : ℕ) → k < 64 → (range.first ≤ first + k → range.last < first + k)
    → bit_at 0 k ≡ bit (in_range (first + k) range)
outside-bits range first k lt out =
    elim (cases_lt (first + k) range.first) [
      | inl under ↦ bit_at-zero k ∙ ap bit (sym (in_range-below (first + k) range under))
      | inr from ↦ bit_at-zero k ∙ ap bit (sym (in_range-above (first + k) range (out from)))
    ]

-- a part of 64 codes from the first on
pub part-bits : (range : CharRange) (first k : ℕ) → k < 64 → first ≤ range.last
    → is_from_to (max range.first first - first) (min (range.last - first) 63) k ≡ in_range (first + k) range
part-bits range first k lt from =
    ap₂ ◌&&◌
    (same_bound (max range.first first - first) k range.first (first + k) (λ h. omega (arith, h))
    (λ h. omega (arith, h)))
    (same_bound k (min (range.last - first) 63) (first + k) range.last (λ h. omega (arith, h)) (λ h. omega (arith, h)))

bit-or : (a b : Bool) → max (bit a) (bit b) ≡ bit (a || b)
bit-or true true = refl
bit-or true false = refl
bit-or false true = refl
bit-or false false = refl

bit-and : (a b : Bool) → min (bit a) (bit b) ≡ bit (a && b)
bit-and true true = refl
bit-and true false = refl
bit-and false true = refl
bit-and false false = refl

bit-without : (a b : Bool) → min (bit a) (1 - bit b) ≡ bit (a && not b)
bit-without true true = refl
bit-without true false = refl
bit-without false true = refl
bit-without false false = refl

pub or-bits : (m n k : ℕ) (a b : Bool) → bit_at m k ≡ bit a → bit_at n k ≡ bit b → bit_at (bit_or m n) k ≡ bit (a || b)
or-bits m n k a b first second = bit_at_or m n k ∙ ap₂ max first second ∙ bit-or a b

pub and-bits : (m n k : ℕ) (a b : Bool) → bit_at m k ≡ bit a → bit_at n k ≡ bit b → bit_at (bit_and m n) k
    ≡ bit (a && b)
and-bits m n k a b first second = bit_at_and m n k ∙ ap₂ min first second ∙ bit-and a b

pub without-bits : (m n k : ℕ) (a b : Bool) → n < 2 ^ 64 → k < 64 → bit_at m k ≡ bit a → bit_at n k ≡ bit b
    → bit_at (bit_and m (bit_not w64 n)) k ≡ bit (a && not b)
without-bits m n k a b small lt first second =
    bit_at_and m (bit_not w64 n) k
    ∙ ap₂ min first (bit_at_not w64 n k small lt ∙ ap (λ v. 1 - v) second)
    ∙ bit-without a b

-- the words of the ranges so far, with those of one range more
pub AreBitsOf-more : (word part first : ℕ) (ranges : List CharRange) (i : ℕ) (d : CharRange) → i < length ranges
    → AreBitsOf word (take i ranges) first → ((k : ℕ) → k < 64 → bit_at part k
    ≡ bit (in_range (first + k) (get_or ranges i d))) → AreBitsOf (bit_or word part) (take (i + 1) ranges) first
AreBitsOf-more word part first ranges i d there so_far more k lt =
    let r = get_or ranges i d in
    or-bits word part k (in_set (take i ranges) (first + k)) (in_range (first + k) r) (so_far k lt) (more k lt)
    ∙ ap bit
    (sym
    (ap (λ rs. in_set rs (first + k)) (take_more ranges i d there)
    ∙ list_any-append (in_range (first + k)) (take i ranges) (r ∷ [])
    ∙ ap (λ b. in_set (take i ranges) (first + k) || b) (or-false (in_range (first + k) r))))
