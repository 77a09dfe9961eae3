-- Sets by tests that agree.
use Rattle.std.proofs.Common.{◌≡◌, ℕ, zero, suc, ◌<◌, not-suc-le-zero, le_of_suc-le-suc, ◌++◌, Bool, ◌&&◌, ◌||◌, ◌==◌}
use Rattle.std.proofs.Common.{nat_le, List, [], ◌∷◌, map, refl, sym, ap₂, arith, inl, inr, le-leb, ◌∙◌}
use Rattle.std.specs.List.{list_any}
use Rattle.std.proofs.lemmas.Bool.{and_left, and_right, cases_lt, lt-leb}
use Rattle.std.proofs.lemmas.Bool.Decides.{eqb_tells}
use Rattle.std.specs.Prelude.{Result, Ok, Err, IfOk}
use Rattle.std.proofs.lemmas.List.Elements.{All-append}
use Rattle.char_sets.specs.KnownSets.{IsKnown, AreKnown}
use Rattle.char_sets.specs.Ranges.{in_set, IsSetOf}
use Rattle.char_sets.specs.declared.named_sets.KnownSet.{KnownSet}
use Rattle.char_sets.specs.declared.char_set.CharRange.{CharRange}

pub IfOk-IsSetOf : {E : Type 0} (r : Result (List CharRange) E) (p q : ℕ → Bool) → IfOk r (λ s. IsSetOf s p)
    → ((c : ℕ) → c < 1_114_112 → p c ≡ q c) → IfOk r (λ s. IsSetOf s q)
IfOk-IsSetOf (Ok s) p q h same = λ c lt. h c lt ∙ same c lt
IfOk-IsSetOf (Err e) p q h same = tt

-- ranges that are kept are a set as they were
pub IfOk-same : {E : Type 0} (r : Result (List CharRange) E) (ranges : List CharRange) (p : ℕ → Bool)
    → IfOk r (λ s. s ≡ ranges) → IsSetOf ranges p → IfOk r (λ s. IsSetOf s p)
IfOk-same (Ok s) ranges p same h = rw same h
IfOk-same (Err e) ranges p same h = tt

one-known : (known : KnownSet) → IsKnown known → AreKnown (known ∷ [])
one-known known is zero d lt = is
one-known known is (suc k) d lt = absurd (not-suc-le-zero (le_of_suc-le-suc lt))

-- one known set more
pub AreKnown-push : (all : List KnownSet) (known : KnownSet) → AreKnown all → IsKnown known
    → AreKnown (all ++ known ∷ [])
AreKnown-push all known are is = All-append IsKnown all (known ∷ []) are (one-known known is)

abbrev pub only : ℕ → CharRange
only a = record { first = a; last = a }

one_code : (a c : ℕ) → (nat_le a c && nat_le c a) ≡ (c == a)
one_code a c =
    elim (eqb_tells c a) [
      | inl w ↦
          let same = w.1 in
          ap₂ ◌&&◌ (le-leb a c (omega arith)) (le-leb c a (omega arith)) ∙ sym w.0
      | inr w ↦
          let other = w.1 in
          elim (cases_lt c a) [
            | inl below ↦ and_left (nat_le a c) (nat_le c a) (lt-leb a c below) ∙ sym w.0
            | inr above ↦
                let beyond : a < c = omega arith in
                and_right (nat_le a c) (nat_le c a) (lt-leb c a beyond) ∙ sym w.0
          ]
    ]

-- ranges of one code each
pub in_set-codes : (codes : List ℕ) (c : ℕ) → in_set (map only codes) c ≡ list_any (λ a. c == a) codes
in_set-codes [] c = refl
in_set-codes (a ∷ codes) c = ap₂ ◌||◌ (one_code a c) (in_set-codes codes c)
