-- Numbers in at most eight hexadecimal digits.
use Rattle.std.proofs.Common.{◌≡◌, ℕ, zero, suc, ◌+◌, ◌^◌, ◌<◌, ◌≤◌, List, [], ◌∷◌, length, get_or, Bool, true, false}
use Rattle.std.proofs.Common.{cond, refl, arith, Option, Some, None}
use Rattle.std.specs.Prelude.{unwrap_or}
use Rattle.std.specs.List.{list_all}
use Rattle.std.specs.Option.{SomeIff}
use Rattle.std.specs.Char.{digit_value, is_digit}
use Rattle.syntax_defs.specs.Escapes.{hex_count}
use Rattle.onig_class.specs.Digits.{AreDigits}
use Rattle.std.proofs.lemmas.Bool.{ltb-true, true_from_ne_false}
use Rattle.std.proofs.lemmas.List.Folds.{list_all_at}

list_all-at : (p : ℕ → Bool) (xs : List ℕ) (i d : ℕ) → i < length xs → list_all p xs ≡ true → p (get_or xs i d) ≡ true
list_all-at p xs i d h all = true_from_ne_false (p (get_or xs i d))
    (λ e. let f : list_all p xs ≡ false = list_all_at p xs i d h e in cc)

-- what `to_digit` gives at a digit
pub record Digit (c digit : ℕ) : Type 0 where
  pub is : digit ≡ digit_value c
  pub small : digit < 16

digit_of : (o : Option ℕ) (c : ℕ) → SomeIff o (digit_value c < 16) (digit_value c) → is_digit c 16 ≡ true
    → Digit c (unwrap_or o 0)
digit_of None c none hex = absurd (none (ltb-true _ _ hex))
digit_of (Some x) c some hex = record {
  is = some.1;
  small = let s : digit_value c < 16 =
      some.0 in let e : x ≡ digit_value c = some.1 in omega arith;
}

-- fewer than eight digits write less than 16 ^ 7
pub few_digits : (i : ℕ) → i < 8 → 16 ^ i ≤ 268435456
few_digits zero h = omega arith
few_digits (suc zero) h = omega arith
few_digits (suc (suc zero)) h = omega arith
few_digits (suc (suc (suc zero))) h = omega arith
few_digits (suc (suc (suc (suc zero)))) h = omega arith
few_digits (suc (suc (suc (suc (suc zero))))) h = omega arith
few_digits (suc (suc (suc (suc (suc (suc zero)))))) h = omega arith
few_digits (suc (suc (suc (suc (suc (suc (suc zero))))))) h = omega arith
few_digits (suc (suc (suc (suc (suc (suc (suc (suc i)))))))) h = absurd (omega arith)

pub next_digit : (digits : List ℕ) (i c : ℕ) (o : Option ℕ) → list_all (λ d. is_digit d 16) digits ≡ true
    → i < length digits → c ≡ get_or digits i c → SomeIff o (digit_value c < 16) (digit_value c)
    → Digit c (unwrap_or o 0)
next_digit digits i c o all h e some = digit_of o c some
    (let hex : is_digit (get_or digits i c) 16 ≡ true = list_all-at (λ d. is_digit d 16) digits i c h all in rw e hex)

one_digit : (b : Bool) (most n c : ℕ) (rest : List ℕ) → is_digit c 16 ≡ b → AreDigits most n rest
    → AreDigits (suc most) (cond b (1 + n) 0) (c ∷ rest)
one_digit false most n c rest is are = record { few = omega arith; inside = omega arith; all = refl }
one_digit true most n c rest is are =
    let few : n ≤ most = are.few in
    let inside : n ≤ length rest = are.inside in
    let one : 1 + n ≡ suc n = omega arith in
    record {
      few = omega arith;
      inside = omega arith;
      all = rw one (rw is are.all);
    }

pub digits_of : (most : ℕ) (rest : List ℕ) → AreDigits most (hex_count most rest) rest
digits_of zero rest = record { few = omega arith; inside = omega arith; all = refl }
digits_of (suc most) [] = record { few = omega arith; inside = omega arith; all = refl }
digits_of (suc most) (c ∷ rest) = one_digit (is_digit c 16) most (hex_count most rest) c rest refl (digits_of most rest)
