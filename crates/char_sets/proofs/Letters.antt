-- Characters that pass a test, gathered one after the other.
use Rattle.std.proofs.Common.{◌≡◌, ℕ, ◌+◌, ◌<◌, ◌≤◌, Bool, true, false, ◌||◌, ◌&&◌, not, nat_le, List, [], ◌∷◌, ◌++◌}
use Rattle.std.proofs.Common.{refl, sym, ap, subst, ◌∙◌, arith, inl, inr, le_refl}
use Rattle.std.proofs.lemmas.Bool.{and_right, cases_lt, lt-leb}
use Rattle.std.proofs.lemmas.List.Folds.{list_any-append}
use Rattle.char_sets.specs.Ranges.{in_range, in_set, rises, IsSetOf}
use Rattle.char_sets.specs.Case.{other_case, is_missing, in_either_case}
use Rattle.char_sets.specs.declared.char_set.CharRange.{CharRange}
use Rattle.char_sets.proofs.Rising.{after_all, after_all-nil, after_all-append, in_set-after, rises-append, rises-nil}
use Rattle.char_sets.proofs.Rising.{in_range-below, in_range-inside}
use Rattle.std.proofs.Math.Bool.{or-true, or-false}

-- the ranges have those below the code
pub record Letters (out : List CharRange) (code : ℕ) (p : ℕ → Bool) : Type 0 where
  pub rising : rises 0 out ≡ true
  pub before : after_all 0 out ≤ code
  pub members : (c : ℕ) → c < code → in_set out c ≡ p c

pub Letters-skip : (out : List CharRange) (code : ℕ) (p : ℕ → Bool) → Letters out code p → p code ≡ false
    → Letters out (code + 1) p
Letters-skip out code p h none =
    let before = h.before in
    record {
      rising = h.rising;
      before = omega arith;
      members = λ c lt.
          elim (cases_lt c code) [
            | inl below ↦ h.members c below
            | inr above ↦
                let same : code ≡ c = omega arith in
                subst (λ d. in_set out d ≡ p d) same (in_set-after 0 out code h.rising h.before ∙ sym none)
          ];
    }

pub Letters-push : (out : List CharRange) (code : ℕ) (p : ℕ → Bool) → Letters out code p → code < 128 → p code ≡ true
    → Letters (out ++ record { first = code; last = code } ∷ []) (code + 1) p
Letters-push out code p h ascii some =
    let r : CharRange = record { first = code; last = code } in
    let after = after_all-append 0 out r in
    record {
      rising = rises-append 0 out r h.rising h.before (le_refl code) (omega arith);
      before = omega arith;
      members = λ c lt.
          list_any-append (in_range c) out (r ∷ [])
          ∙ ap (λ b. in_set out c || b) (or-false (in_range c r))
          ∙ elim (cases_lt c code) [
            | inl below ↦ ap (λ b. in_set out c || b) (in_range-below c r below) ∙ or-false (in_set out c)
                ∙ h.members c below
            | inr above ↦
                let low : code ≤ c = above in
                let high : c ≤ code = omega arith in
                let same : code ≡ c = omega arith in
                ap (λ b. in_set out c || b) (in_range-inside c r low high) ∙ or-true (in_set out c)
                ∙ subst (λ d. true ≡ p d) same (sym some)
          ];
    }

and-not : (b : Bool) → (b && not b) ≡ false
and-not true = refl
and-not false = refl

-- no character that is its own other case is missing
missing-none : (set : List CharRange) (c : ℕ) → other_case c ≡ c → is_missing set c ≡ false
missing-none set c same = ap (λ d. in_set set d && not (in_set set c)) same ∙ and-not (in_set set c)

same-below : (c : ℕ) → c < 65 → other_case c ≡ c
same-below c lt =
    let below : c < 97 = omega arith in
    rw (lt-leb 65 c lt, lt-leb 97 c below) refl

same-above : (c : ℕ) → 122 < c → other_case c ≡ c
same-above c lt =
    let above : 90 < c = omega arith in
    rw (
      and_right (nat_le 65 c) (nat_le c 90) (lt-leb c 90 above),
      and_right (nat_le 97 c) (nat_le c 122)
          (lt-leb c 122 lt),
    ) refl

-- no letter stands below the first
pub Letters-start : (set : List CharRange) → Letters [] 65 (is_missing set)
Letters-start set = record {
  rising = rises-nil 0;
  before = omega (arith, after_all-nil 0);
  members = λ c lt. sym (missing-none set c (same-below c lt));
}

-- nor behind the last
pub Letters-done : (out : List CharRange) (code : ℕ) (set : List CharRange) → Letters out code (is_missing set)
    → 123 ≤ code → IsSetOf out (is_missing set)
Letters-done out code set h ended c lt =
    elim (cases_lt c code) [
      | inl below ↦ h.members c below
      | inr above ↦
          let before = h.before in
          let behind : 122 < c = omega arith in
          in_set-after 0 out c h.rising (omega arith) ∙ sym (missing-none set c (same-above c behind))
    ]

either-missing : (here other : Bool) → (here || (other && not here)) ≡ (here || other)
either-missing true true = refl
either-missing true false = refl
either-missing false true = refl
either-missing false false = refl

-- a set with its missing letters has them in either case
pub with_missing : (set : List CharRange) (c : ℕ) → (in_set set c || is_missing set c) ≡ in_either_case set c
with_missing set c = either-missing (in_set set c) (in_set set (other_case c))

pub none_missing : (set : List CharRange) (c : ℕ) → is_missing set c ≡ false → in_set set c ≡ in_either_case set c
none_missing set c none = sym (or-false (in_set set c)) ∙ ap (λ b. in_set set c || b) (sym none) ∙ with_missing set c
