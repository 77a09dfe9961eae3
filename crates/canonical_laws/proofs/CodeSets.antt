-- The set of the codes that pass a test: which codes it has, and when two tests have one set.
use Rattle.std.proofs.Common.{◌≡◌, ℕ, zero, suc, ◌+◌, ◌<◌, ◌≤◌, List, ◌∷◌, refl, ap, sym, inl, inr, ◌∙◌, subst, arith}
use Rattle.std.specs.Prelude.{◌⊎◌, Bool, true, false, if◌then◌else◌}
use Rattle.std.proofs.lemmas.Bool.Decides.{nat_tests}
use Rattle.std.proofs.lemmas.Bool.{cases_lt}
use Rattle.char_sets.specs.declared.char_set.CharRange.{CharRange}
use Rattle.char_sets.specs.Ranges.{in_range, in_set}
use Rattle.canonical_patterns.specs.Canonical.{code, codes_from, set_of}

-- the first code and those after it, where the first passes or not
abbrev first_then : Bool → ℕ → List CharRange → List CharRange
first_then passes from rest = if passes then code from ∷ rest else rest

in_code-other : (from c : ℕ) → c < from → in_range c (code from) ≡ false
in_code-other from c below = grind (arith, nat_tests)

in_code-after : (from c : ℕ) → from < c → in_range c (code from) ≡ false
in_code-after from c after = grind (arith, nat_tests)

in_code-same : (c : ℕ) → in_range c (code c) ≡ true
in_code-same c = grind (arith, nat_tests)

codes_from-below : (from count : ℕ) (p : ℕ → Bool) (c : ℕ) → c < from → in_set (codes_from from count p) c ≡ false
unfolding codes_from
codes_from-below from zero p c below = refl
codes_from-below from (suc count) p c below =
    by_first (p from) (codes_from-below (from + 1) count p c (omega arith))
  where
    by_first : (b : Bool) → in_set (codes_from (from + 1) count p) c ≡ false
        → in_set (first_then b from (codes_from (from + 1) count p)) c ≡ false
    by_first true none = rw (in_code-other from c below) none
    by_first false none = none

codes_from-has : (from count : ℕ) (p : ℕ → Bool) (c : ℕ) → from ≤ c → c < from + count
    → in_set (codes_from from count p) c ≡ p c
unfolding codes_from
codes_from-has from zero p c above below = absurd (omega arith)
codes_from-has from (suc count) p c above below =
    by_place (cases_lt from c) (p from) refl (codes_from-has (from + 1) count p c)
  where
    later : (b : Bool) → from < c → in_set (codes_from (from + 1) count p) c ≡ p c
        → in_set (first_then b from (codes_from (from + 1) count p)) c ≡ p c
    later true after has = rw (in_code-after from c after) has
    later false after has = has

    first : (b : Bool) → p from ≡ b → from ≡ c → in_set (first_then b from (codes_from (from + 1) count p)) c ≡ p c
    first true passes same = subst (λ n. in_set (first_then true n (codes_from (from + 1) count p)) c ≡ p c) (sym same)
        (rw (in_code-same c) (sym (subst (λ n. p n ≡ true) same passes)))
    first false passes same =
        codes_from-below (from + 1) count p c (omega arith) ∙ sym (subst (λ n. p n ≡ false) same passes)

    by_place : (from < c) ⊎ (c ≤ from) → (b : Bool) → p from ≡ b
        → (from + 1 ≤ c → c < from + 1 + count → in_set (codes_from (from + 1) count p) c ≡ p c)
        → in_set (first_then b from (codes_from (from + 1) count p)) c ≡ p c
    by_place (inl after) b passes has = later b after (has (omega arith) (omega arith))
    by_place (inr not_after) b passes has = first b passes (omega arith)

-- the set has a code exactly where the code passes the test
pub set_of-has : (p : ℕ → Bool) (c : ℕ) → c < 1_114_112 → in_set (set_of p) c ≡ p c
unfolding set_of
set_of-has p c below = codes_from-has 0 1_114_112 p c (omega arith) (omega arith)

codes_from-same : (from count : ℕ) (p q : ℕ → Bool) → ((c : ℕ) → c < from + count → p c ≡ q c)
    → codes_from from count p ≡ codes_from from count q
unfolding codes_from
codes_from-same from zero p q agree = refl
codes_from-same from (suc count) p q agree =
    by_first (p from) (q from) (agree from (omega arith))
    (codes_from-same (from + 1) count p q (λ c below. agree c (omega arith)))
  where
    by_first : (b other : Bool) → b ≡ other → codes_from (from + 1) count p ≡ codes_from (from + 1) count q
        → first_then b from (codes_from (from + 1) count p) ≡ first_then other from (codes_from (from + 1) count q)
    by_first true true e same = ap (λ rest. code from ∷ rest) same
    by_first true false e same = cc
    by_first false true e same = cc
    by_first false false e same = same

-- tests that agree on all codes have one set
pub set_of-same : (p q : ℕ → Bool) → ((c : ℕ) → c < 1_114_112 → p c ≡ q c) → set_of p ≡ set_of q
unfolding set_of
set_of-same p q agree = codes_from-same 0 1_114_112 p q (λ c below. agree c (omega arith))
