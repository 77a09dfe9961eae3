-- Each sign changes the verdict as it changes what the levels say.
use Rattle.std.proofs.Common.{◌≡◌, ℕ, zero, suc, ◌+◌, ◌-◌, Bool, true, false, ◌&&◌, ◌||◌, cond, List, []}
use Rattle.std.proofs.Common.{◌∷◌, ◌++◌, refl, sym, ◌∙◌, ap, subst, arith}
use Rattle.std.proofs.Math.Dec.{eqb-suc-zero}
use Rattle.scope_defs.specs.Scopes.{Name, Scopes}
use Rattle.scope_defs.specs.Selectors.{path_holds}
use Rattle.selectors.specs.declared.sign.Sign.{Sign}
use Rattle.selectors.specs.declared.sign.Sign.TheVariants.{Path, Opens, Closes, Next}
use Rattle.selectors.specs.declared.verdict.Verdict.{Verdict}
use Rattle.selectors.specs.declared.verdict.Verdict.TheVariants.{Holds, Fails, Held}
use Rattle.selectors.specs.Verdicts.{joined, behind, run, is_true}
use Rattle.selectors.specs.Truths.{Truth, turned, with_test, GoOn, FailIn, HeldIn, Tells}

abbrev pub fresh : Truth
fresh = record { either = false; both = true }

abbrev pub value : Truth → Bool
value t = t.either || t.both

abbrev pub next : Truth → Truth
next t = record { either = value t; both = true }

pub run-snoc : (scopes : Scopes) (signs : List Sign) (sign : Sign) (v : Verdict) → run scopes (signs ++ sign ∷ []) v
    ≡ behind scopes sign (run scopes signs v)
run-snoc scopes [] sign v = refl
run-snoc scopes (s ∷ signs) sign v = run-snoc scopes signs sign (behind scopes s v)

-- a test in a level that goes on
joined_tells : (holds wanted : Bool) (t : Truth) (ts : List Truth) → t.either ≡ false → t.both ≡ true → GoOn ts
    → Tells (joined holds wanted) (with_test (turned wanted holds) t ∷ ts)
joined_tells true true t ts e b go = (e, ap (λ x. x && true) b, go)
joined_tells true false t ts e b go = (e, ap (λ x. x && false) b, go)
joined_tells false true t ts e b go = (e, ap (λ x. x && false) b, go)
joined_tells false false t ts e b go = (e, ap (λ x. x && true) b, go)

pub path_tells : (scopes : Scopes) (names : List Name) (wanted : Bool) (v : Verdict) (t : Truth) (ts : List Truth)
    → Tells v (t ∷ ts) → Tells (behind scopes (Path names wanted) v)
    (with_test (turned wanted (path_holds names scopes)) t ∷ ts)
path_tells scopes names wanted Holds t ts is = joined_tells (path_holds names scopes) wanted t ts is.0 is.1 is.2
path_tells scopes names wanted (Fails zero) t ts is =
    (is.0, ap (λ x. x && turned wanted (path_holds names scopes)) is.1, is.2)
path_tells scopes names wanted (Fails (suc inside)) t ts is = is
path_tells scopes names wanted (Held zero) t ts is = is
path_tells scopes names wanted (Held (suc inside)) t ts is = is

plus_one : (n : ℕ) → suc n ≡ n + 1
plus_one n = omega arith

minus_one : (n : ℕ) → n ≡ suc n - 1
minus_one n = omega arith

pub opens_tells : (scopes : Scopes) (v : Verdict) (ts : List Truth) → Tells v ts
    → Tells (behind scopes Opens v) (fresh ∷ ts)
opens_tells scopes Holds ts is = (refl, refl, is)
opens_tells scopes (Fails inside) ts is = subst (λ n. FailIn n (fresh ∷ ts)) (plus_one inside) is
opens_tells scopes (Held inside) ts is = subst (λ n. HeldIn n (fresh ∷ ts)) (plus_one inside) is

pub next_tells : (scopes : Scopes) (v : Verdict) (t : Truth) (ts : List Truth) → Tells v (t ∷ ts)
    → Tells (behind scopes Next v) (next t ∷ ts)
next_tells scopes Holds t ts is = (ap (λ x. x || t.both) is.0 ∙ is.1, is.2)
next_tells scopes (Fails zero) t ts is = (ap (λ x. x || t.both) is.0 ∙ is.1, refl, is.2)
next_tells scopes (Fails (suc inside)) t ts is =
    subst (λ b. Tells (cond b Holds (Fails (suc inside))) (next t ∷ ts)) (sym (eqb-suc-zero inside)) is
next_tells scopes (Held zero) t ts is = (ap (λ x. x || t.both) is.0, is.1)
next_tells scopes (Held (suc inside)) t ts is = is

-- a test in a level around one that is passed over
fail_below : (inside : ℕ) (u : Truth) (ts : List Truth) (x : Bool) → FailIn inside (u ∷ ts)
    → FailIn inside (with_test x u ∷ ts)
fail_below zero u ts x is = (is.0, ap (λ y. y && x) is.1, is.2)
fail_below (suc inside) u ts x is = is

held_below : (inside : ℕ) (u : Truth) (ts : List Truth) (x : Bool) → HeldIn inside (u ∷ ts)
    → HeldIn inside (with_test x u ∷ ts)
held_below zero u ts x is = is
held_below (suc inside) u ts x is = is

closed_tells : (holds wanted : Bool) (t u : Truth) (ts : List Truth) → value t ≡ holds → u.either ≡ false → u.both
    ≡ true → GoOn ts → Tells (joined holds wanted) (with_test (turned wanted (value t)) u ∷ ts)
closed_tells holds wanted t u ts is e b go =
    subst (λ x. Tells (joined holds wanted) (with_test (turned wanted x) u ∷ ts)) (sym is)
    (joined_tells holds wanted u ts e b go)

pub closes_tells : (scopes : Scopes) (wanted : Bool) (v : Verdict) (t u : Truth) (ts : List Truth)
    → Tells v (t ∷ u ∷ ts) → Tells (behind scopes (Closes wanted) v) (with_test (turned wanted (value t)) u ∷ ts)
closes_tells scopes wanted Holds t u ts is =
    closed_tells true wanted t u ts (ap (λ x. x || t.both) is.0 ∙ is.1) is.2.0 is.2.1 is.2.2
closes_tells scopes wanted (Fails zero) t u ts is =
    closed_tells false wanted t u ts (ap (λ x. x || t.both) is.0 ∙ is.1) is.2.0 is.2.1 is.2.2
closes_tells scopes wanted (Fails (suc inside)) t u ts is =
    subst (λ b. Tells (cond b (joined false wanted) (Fails (suc inside - 1)))
    (with_test (turned wanted (value t)) u ∷ ts)) (sym (eqb-suc-zero inside))
    (subst (λ n. FailIn n (with_test (turned wanted (value t)) u ∷ ts)) (minus_one inside)
    (fail_below inside u ts (turned wanted (value t)) is))
closes_tells scopes wanted (Held zero) t u ts is =
    closed_tells true wanted t u ts (ap (λ x. x || t.both) is.0) is.1.0 is.1.1 is.1.2
closes_tells scopes wanted (Held (suc inside)) t u ts is =
    subst (λ b. Tells (cond b (joined true wanted) (Held (suc inside - 1)))
    (with_test (turned wanted (value t)) u ∷ ts)) (sym (eqb-suc-zero inside))
    (subst (λ n. HeldIn n (with_test (turned wanted (value t)) u ∷ ts)) (minus_one inside)
    (held_below inside u ts (turned wanted (value t)) is))

-- the verdict of the outermost level
pub told : (v : Verdict) (t : Truth) → Tells v (t ∷ []) → is_true v ≡ value t
told Holds t is = sym (ap (λ x. x || t.both) is.0 ∙ is.1)
told (Fails zero) t is = sym (ap (λ x. x || t.both) is.0 ∙ is.1)
told (Fails (suc inside)) t is = absurd is
told (Held zero) t is = sym (ap (λ x. x || t.both) is.0)
told (Held (suc inside)) t is = absurd is
