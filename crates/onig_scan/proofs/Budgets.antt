-- A search that isn't spent answers the same with more visits, since each of its attempts does.
use Rattle.std.proofs.Common.{◌≡◌, ◌≢◌, ℕ, ◌+◌, true, false, List, [], ◌∷◌, Option, Some, None, refl, ap, ◌∙◌, subst}
use Rattle.pattern_defs.specs.declared.outcomes.Flags.{Flags}
use Rattle.pattern_defs.specs.declared.outcomes.Found.TheVariants as found
use Rattle.pattern_defs.specs.declared.outcomes.Outcome.TheVariants as outcomes
use Rattle.pattern_defs.specs.Attempt.{Ran, Hit, Miss, Spent, Captures, outcome_of, last_hit_captures}
use Rattle.pattern_defs.specs.FirstMatch.{Pair, tried, is_no_miss, first_of, answer_by, found_at, captures_at}

-- each attempt that isn't spent answers the same, with the same captures, with so many visits more
pub record AreSame (text : List ℕ) (flags : Flags) (budget more : ℕ) : Type 0 where
  pub outcome : (pair : Pair) → outcome_of (tried text flags budget pair) ≢ outcomes.Spent →
      outcome_of (tried text flags (budget + more) pair) ≡ outcome_of (tried text flags budget pair)
  pub captures : (pair : Pair) (last : Captures) → outcome_of (tried text flags budget pair) ≢ outcomes.Spent →
      last_hit_captures (tried text flags (budget + more) pair) last
      ≡ last_hit_captures (tried text flags budget pair) last

-- the pair that decides, where one does, isn't spent
abbrev pub IsTold : List ℕ → Flags → ℕ → Option Pair → Type 0
IsTold text flags budget o = (index place : ℕ) → found_at text flags budget o ≢ found.Spent index place

same_decides : (r other : Ran) → outcome_of other ≡ outcome_of r → is_no_miss other ≡ is_no_miss r
same_decides (Hit at captures left) (Hit at' captures' left') e = refl
same_decides (Hit at captures left) (Miss left') e = cc
same_decides (Hit at captures left) Spent e = refl
same_decides (Miss left) (Hit at' captures' left') e = cc
same_decides (Miss left) (Miss left') e = refl
same_decides (Miss left) Spent e = cc
same_decides Spent (Hit at' captures' left') e = refl
same_decides Spent (Miss left') e = cc
same_decides Spent Spent e = refl

same_answers : (p : Pair) (r other : Ran) → outcome_of other ≡ outcome_of r → answer_by p other ≡ answer_by p r
same_answers p (Hit at captures left) (Hit at' captures' left') e = refl
same_answers p (Hit at captures left) (Miss left') e = cc
same_answers p (Hit at captures left) Spent e = cc
same_answers p (Miss left) (Hit at' captures' left') e = cc
same_answers p (Miss left) (Miss left') e = refl
same_answers p (Miss left) Spent e = cc
same_answers p Spent (Hit at' captures' left') e = cc
same_answers p Spent (Miss left') e = cc
same_answers p Spent Spent e = refl

-- the same pair decides
pub first_of-same : (text : List ℕ) (flags : Flags) (budget more : ℕ) (all : List Pair)
    → AreSame text flags budget more →
    IsTold text flags budget (first_of all text flags budget) →
    first_of all text flags (budget + more) ≡ first_of all text flags budget
first_of-same text flags budget more [] same told = refl
first_of-same text flags budget more (p ∷ ps) same told =
    by_run (tried text flags budget p) refl (first_of-same text flags budget more ps same)
  where
    by_run : (r : Ran) → tried text flags budget p ≡ r
        → (IsTold text flags budget (first_of ps text flags budget) → first_of ps text flags (budget + more)
        ≡ first_of ps text flags budget)
        → first_of (p ∷ ps) text flags (budget + more) ≡ first_of (p ∷ ps) text flags budget
    by_run (Hit at captures left) e later =
        let hits : outcome_of (tried text flags budget p) ≡ outcomes.Hit = ap outcome_of e in
        let now : is_no_miss (tried text flags budget p) ≡ true = ap is_no_miss e in
        let then : is_no_miss (tried text flags (budget + more) p) ≡ true =
        same_decides (tried text flags budget p) (tried text flags (budget + more) p) (same.outcome p (λ s. cc))
        ∙ now in
        rw (now, then) refl
    by_run (Miss left) e later =
        let misses : outcome_of (tried text flags budget p) ≡ outcomes.Miss = ap outcome_of e in
        let now : is_no_miss (tried text flags budget p) ≡ false = ap is_no_miss e in
        let then : is_no_miss (tried text flags (budget + more) p) ≡ false =
        same_decides (tried text flags budget p) (tried text flags (budget + more) p) (same.outcome p (λ s. cc))
        ∙ now in
        let rest : first_of (p ∷ ps) text flags budget ≡ first_of ps text flags budget = rw now refl in
        let Told : Option Pair → Type 0 = λ o. IsTold text flags budget o in
        rw (now, then) (later (subst Told rest told))
    by_run Spent e later =
        let now : is_no_miss (tried text flags budget p) ≡ true = ap is_no_miss e in
        let first : first_of (p ∷ ps) text flags budget ≡ Some p = rw now refl in
        absurd (told p.index p.place (ap (found_at text flags budget) first ∙ ap (answer_by p) e))

-- an attempt that decides an answer which isn't spent isn't spent
not_spent : (p : Pair) (r : Ran) → ((index place : ℕ) → answer_by p r ≢ found.Spent index place)
    → outcome_of r ≢ outcomes.Spent
not_spent p (Hit at captures left) told e = cc
not_spent p (Miss left) told e = cc
not_spent p Spent told e = told p.index p.place refl

pub found_at-same : (text : List ℕ) (flags : Flags) (budget more : ℕ) (o : Option Pair)
    → AreSame text flags budget more →
    IsTold text flags budget o → found_at text flags (budget + more) o ≡ found_at text flags budget o
found_at-same text flags budget more None same told = refl
found_at-same text flags budget more (Some p) same told =
    same_answers p (tried text flags budget p) (tried text flags (budget + more) p)
    (same.outcome p (not_spent p (tried text flags budget p) told))

pub captures_at-same : (text : List ℕ) (flags : Flags) (budget more : ℕ) (o : Option Pair) (last : Captures) →
    AreSame text flags budget more → IsTold text flags budget o →
    captures_at text flags (budget + more) o last ≡ captures_at text flags budget o last
captures_at-same text flags budget more None last same told = refl
captures_at-same text flags budget more (Some p) last same told =
    same.captures p last (not_spent p (tried text flags budget p) told)
