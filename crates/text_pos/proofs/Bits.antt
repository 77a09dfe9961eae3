-- The sets of kinds that `|`, `&`, `!` and `<<` make.
use Rattle.std.proofs.Common.{◌≡◌, ℕ, ◌-◌, ◌*◌, ◌%◌, ◌^◌, ◌<◌, ◌≤◌, ◌≢◌, ◌&&◌, ◌||◌, ◌==◌, ◌↔◌, min, max, false, not}
use Rattle.std.proofs.Common.{IsTrue, bit_and, bit_or, w64, refl, arith, sym, ◌∙◌, inl, inr, nat_lt}
use Rattle.std.specs.Int.{bit_at, bit_not, trailing_zeros}
use Rattle.std.proofs.lemmas.Bool.Decides.{nat_tests, eqb_tells}
use Rattle.std.proofs.lemmas.Nat.Bits.{bit_at_or, bit_at_and, bit_at_not, bit_at-lt, bit_at-pow_same, bit_at-pow_other}
use Rattle.std.proofs.lemmas.Nat.Bits.{bit_at-trailing_zeros, bit_at-zero, bit_at_above}
use Rattle.std.proofs.lemmas.Nat.{or_lt}
use Rattle.std.proofs.Math.Pow.{pow-lt}
use Rattle.text_pos.specs.KindSet.{is_set}

max_is_one : (x y : ℕ) → x < 2 → y < 2 → (max x y == 1) ≡ ((x == 1) || (y == 1))
max_is_one x y p q = grind (arith, nat_tests)

min_is_one : (x y : ℕ) → x < 2 → y < 2 → (min x y == 1) ≡ ((x == 1) && (y == 1))
min_is_one x y p q = grind (arith, nat_tests)

rest_is_one : (x : ℕ) → x < 2 → (1 - x == 1) ≡ not (x == 1)
rest_is_one x p = grind (arith, nat_tests)

pub is_set_or : (a b k : ℕ) → is_set (bit_or a b) k ≡ (is_set a k || is_set b k)
is_set_or a b k = rw (bit_at_or a b k) (max_is_one (bit_at a k) (bit_at b k) (bit_at-lt a k) (bit_at-lt b k))

pub is_set_and : (a b k : ℕ) → is_set (bit_and a b) k ≡ (is_set a k && is_set b k)
is_set_and a b k = rw (bit_at_and a b k) (min_is_one (bit_at a k) (bit_at b k) (bit_at-lt a k) (bit_at-lt b k))

pub is_set_not : (a k : ℕ) → a < 2 ^ 64 → k < 64 → is_set (bit_not w64 a) k ≡ not (is_set a k)
is_set_not a k p q = rw (bit_at_not w64 a k p q) (rest_is_one (bit_at a k) (bit_at-lt a k))

-- `a & !b`, where the bits of b are known only below 64
pub is_set_but : (a b k : ℕ) → b < 2 ^ 64 → k < 64 → is_set (bit_and a (bit_not w64 b)) k
    ≡ (is_set a k && not (is_set b k))
is_set_but a b k p q = rw (is_set_and a (bit_not w64 b) k, is_set_not b k p q) refl

pub or_fits : (a b : ℕ) → a < 2 ^ 64 → b < 2 ^ 64 → bit_or a b < 2 ^ 64
or_fits a b p q = or_lt 64 a b p q

-- `1 << k`
one_shifted : (n : ℕ) → n < 2 ^ 64 → 1 * n % 2 ^ 64 ≡ n
one_shifted n p = grind arith

is_set_pow : (k j : ℕ) → is_set (2 ^ k) j ≡ (j == k)
is_set_pow k j = elim (eqb_tells j k) [
  | inl (found, same) ↦ rw (found, same, bit_at-pow_same k) refl
  | inr (missed, other) ↦ rw (missed, bit_at-pow_other k j other) refl
]

pub is_set_one : (k j : ℕ) → k < 64 → is_set (1 * 2 ^ k % 2 ^ 64) j ≡ (j == k)
is_set_one k j p = rw (one_shifted (2 ^ k) (pow-lt p)) (is_set_pow k j)

-- no kind from 64 on is in a set
none_held : (a k : ℕ) → a < 2 ^ 64 → 64 ≤ k → is_set a k ≡ false
none_held a k p q = rw (bit_at_above a 64 k p q) refl

not_below : (a k : ℕ) → 64 ≤ k → nat_lt k 64 ≡ false
not_below a k q = grind (arith, nat_tests)

pub none_above : (a k : ℕ) → a < 2 ^ 64 → 64 ≤ k → nat_lt k 64 ≡ is_set a k
none_above a k p q = not_below a k q ∙ sym (none_held a k p q)

-- `a & b != 0`
lowest_held : (n : ℕ) → n < 2 ^ 64 → 0 < n → (k : ℕ) × IsTrue (is_set n k)
lowest_held n p q = (trailing_zeros w64 n, rw ((bit_at-trailing_zeros w64 n q p).1) refl)

zero_is_set : (n k : ℕ) → n ≡ 0 → is_set n k ≡ false
zero_is_set n k e = rw (e, bit_at-zero k) refl

and_held : (a b k : ℕ) → IsTrue (is_set a k && is_set b k) → IsTrue (is_set (bit_and a b) k)
and_held a b k h = rw (is_set_and a b k) h

held_not_zero : (n k : ℕ) → IsTrue (is_set n k) → n ≢ 0
held_not_zero n k h e = let none = zero_is_set n k e in cc

test_is : (n : ℕ) → IsTrue (not (n == 0)) ↔ (n ≢ 0)
test_is n = grind (arith, nat_tests)

pub some_is_set : (n : ℕ) → n < 2 ^ 64 → IsTrue (not (n == 0)) ↔ ((k : ℕ) × IsTrue (is_set n k))
some_is_set n p = (
  λ t. lowest_held n p (let h = (test_is n).0 t in
      omega arith),
  λ (k, h). (test_is n).1 (held_not_zero n k h),
)

both_is_set : (a b : ℕ) → ((k : ℕ) × IsTrue (is_set (bit_and a b) k)) ↔ ((k : ℕ) × IsTrue (is_set a k && is_set b k))
both_is_set a b = (λ (k, h). (k, rw (← is_set_and a b k) h), λ (k, h). (k, and_held a b k h))

pub meets_when : (a b : ℕ) (r : Type 0) → r ↔ ((k : ℕ) × IsTrue (is_set (bit_and a b) k)) → r
    ↔ ((k : ℕ) × IsTrue (is_set a k && is_set b k))
meets_when a b r e = (λ t. (both_is_set a b).0 (e.0 t), λ s. e.1 ((both_is_set a b).1 s))
