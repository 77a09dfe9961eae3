-- A set that is read off from one stretch of codes to the next.
use Rattle.std.proofs.Common.{◌≡◌, ℕ, ◌-◌, ◌<◌, ◌≤◌, Bool, true, false, ◌&&◌, ◌||◌, not, nat_le, List, [], ◌∷◌, ◌++◌}
use Rattle.std.proofs.Common.{refl, sym, ap, subst, ◌∙◌, arith, inl, inr, le-leb, lt-ltb, le-ltb}
use Rattle.std.proofs.Math.Bool.{or-true, or-false, and-true}
use Rattle.std.proofs.lemmas.Bool.{cases_lt, lt-leb}
use Rattle.std.proofs.lemmas.List.Folds.{list_any-append}
use Rattle.char_sets.specs.Ranges.{in_range, in_set, rises, closed, IsSetOf}
use Rattle.char_sets.specs.declared.char_set.CharRange.{CharRange}
use Rattle.char_sets.proofs.Rising.{after_all, after_all-nil, after_all-append, in_set-after, rises-append, rises-nil}

-- what `!` was true of
pub false-from-not : (b : Bool) → not b ≡ true → b ≡ false
false-from-not true e = sym e
false-from-not false e = refl

-- below a place, the ranges and the codes from `start` on are those that pass the test
pub record Joined (ranges : List CharRange) (start at : ℕ) (p : ℕ → Bool) : Type 0 where
  pub rising : rises 0 ranges ≡ true
  pub before : after_all 0 ranges ≤ start
  pub started : start ≤ at
  pub within : at ≤ 1_114_112
  pub members : (c : ℕ) → c < at → p c ≡ (in_set ranges c || nat_le start c)

pub Joined-start : (p : ℕ → Bool) → Joined [] 0 0 p
Joined-start p = record {
  rising = rises-nil 0;
  before = omega (arith, after_all-nil 0);
  started = omega arith;
  within = omega arith;
  members = λ c h. absurd (omega (arith, h));
}

-- a stretch of members
pub Joined-more : (ranges : List CharRange) (start at end : ℕ) (p : ℕ → Bool) → Joined ranges start at p → at < end
    → end ≤ 1_114_112 → ((c : ℕ) → at ≤ c → c < end → p c ≡ true) → Joined ranges start end p
Joined-more ranges start at end p h further within all =
    let started = h.started in
    record {
      rising = h.rising;
      before = h.before;
      started = omega arith;
      within = within;
      members = λ c lt.
          elim (cases_lt c at) [
            | inl below ↦ h.members c below
            | inr above ↦
                let from : start ≤ c = omega arith in
                all c above lt ∙ sym (ap (λ b. in_set ranges c || b) (le-leb start c from) ∙ or-true (in_set ranges c))
          ];
    }

-- the range that was open, written
Joined-written : (ranges : List CharRange) (start at : ℕ) (p : ℕ → Bool) → Joined ranges start at p → start < at
    → Joined (ranges ++ record { first = start; last = at - 1 } ∷ []) at at p
Joined-written ranges start at p h opened =
    let within = h.within in
    let r : CharRange = record { first = start; last = at - 1 } in
    let after = after_all-append 0 ranges r in
    record {
      rising = rises-append 0 ranges r h.rising h.before (omega arith) (omega arith);
      before = omega arith;
      started = omega arith;
      within = h.within;
      members = λ c lt.
          let end : in_range c r ≡ nat_le start c =
          ap (λ b. nat_le start c && b) (le-leb c (at - 1) (omega arith)) ∙ and-true (nat_le start c) in
          h.members c lt
          ∙ sym
          (ap (λ b. in_set (ranges ++ r ∷ []) c || b) (lt-leb at c lt)
          ∙ or-false (in_set (ranges ++ r ∷ []) c)
          ∙ list_any-append (in_range c) ranges (r ∷ [])
          ∙ ap (λ b. in_set ranges c || b) (or-false (in_range c r) ∙ end));
    }

-- the range that was open, if any, written
pub Joined-closed : (ranges : List CharRange) (start at : ℕ) (p : ℕ → Bool) → Joined ranges start at p
    → Joined (closed ranges start at) at at p
unfolding closed
Joined-closed ranges start at p h =
    let started = h.started in
    elim (cases_lt start at) [
      | inl opened ↦ rw (lt-ltb start at opened) (Joined-written ranges start at p h opened)
      | inr none ↦
          let same : start ≡ at = omega arith in
          rw (le-ltb start at none) (subst (λ n. Joined ranges n at p) same h)
    ]

-- a stretch of others, where no range is open
pub Joined-gap : (ranges : List CharRange) (at end : ℕ) (p : ℕ → Bool) → Joined ranges at at p → at < end
    → end ≤ 1_114_112 → ((c : ℕ) → at ≤ c → c < end → p c ≡ false) → Joined ranges end end p
Joined-gap ranges at end p h further within none =
    let before = h.before in
    record {
      rising = h.rising;
      before = omega arith;
      started = omega arith;
      within = within;
      members = λ c lt.
          let not_open : (in_set ranges c || nat_le end c) ≡ in_set ranges c =
          ap (λ b. in_set ranges c || b) (lt-leb end c lt) ∙ or-false (in_set ranges c) in
          elim (cases_lt c at) [
            | inl below ↦ h.members c below ∙ ap (λ b. in_set ranges c || b) (lt-leb at c below)
                ∙ or-false (in_set ranges c) ∙ sym not_open
            | inr above ↦
                let late : after_all 0 ranges ≤ c = omega arith in
                none c above lt ∙ sym (not_open ∙ in_set-after 0 ranges c h.rising late)
          ];
    }

-- where the place is the end of all codes and no range is open, the ranges are the set
pub Joined-done : (ranges : List CharRange) (at : ℕ) (p : ℕ → Bool) → Joined ranges at at p → 1_114_112 ≤ at
    → IsSetOf ranges p
Joined-done ranges at p h ended c lt =
    let early : c < at = omega arith in
    sym (h.members c early ∙ ap (λ b. in_set ranges c || b) (lt-leb at c early) ∙ or-false (in_set ranges c))
