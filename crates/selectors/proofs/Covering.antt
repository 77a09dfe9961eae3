-- The most that is known of signs, where no path that is asked and must hold does, covers each verdict.
use Rattle.std.proofs.Common.{◌≡◌, ℕ, ◌-◌, ◌≤◌, Bool, true, false, List, [], ◌∷◌, ◌++◌, refl, subst, arith}
use Rattle.std.specs.Prelude.{◌==◌, if◌then◌else◌}
use Rattle.std.proofs.lemmas.Bool.Decides.{nat_tests}
use Rattle.scope_defs.specs.Scopes.{Scopes}
use Rattle.scope_defs.specs.Selectors.{path_holds}
use Rattle.selectors.specs.declared.sign.Sign.{Sign}
use Rattle.selectors.specs.declared.sign.Sign.TheVariants.{Path, Opens, Closes, Next}
use Rattle.selectors.specs.declared.verdict.Verdict.{Verdict}
use Rattle.selectors.specs.declared.verdict.Verdict.TheVariants.{Holds, Fails, Held}
use Rattle.selectors.specs.Needs.{LacksOfEach, SignsNeed, keys_at, keys_behind, most_behind, most_of}
use Rattle.selectors.specs.Verdicts.{behind, joined, run, is_true}
use Rattle.selectors.proofs.NeedLaws.{path_lacks}

-- where the most may hold, all but that an alternative outside of the ones at hand holds; where it fails, the verdict
-- fails there or outside; where an alternative may hold, none outside of it does
abbrev Covers : Verdict → Verdict → Type 0
Covers Holds Holds = Unit {0}
Covers Holds (Fails outside) = Unit {0}
Covers Holds (Held outside) = ⊥
Covers (Fails inside) Holds = ⊥
Covers (Fails inside) (Fails outside) = inside ≤ outside
Covers (Fails inside) (Held outside) = ⊥
Covers (Held inside) Holds = Unit {0}
Covers (Held inside) (Fails outside) = Unit {0}
Covers (Held inside) (Held outside) = outside ≤ inside

covers_joined : (holds wanted : Bool) → Covers Holds (joined holds wanted)
covers_joined true true = tt
covers_joined true false = tt
covers_joined false true = tt
covers_joined false false = tt

covers_itself : (wanted : Bool) → Covers (joined false wanted) (joined false wanted)
covers_itself true = omega arith
covers_itself false = tt

covers_deeper : (wanted : Bool) (outside : ℕ) → Covers (joined false wanted) (Fails outside)
covers_deeper true outside = omega arith
covers_deeper false outside = tt

covers_either : (b : Bool) (v w : Verdict) → Covers Holds v → Covers Holds w → Covers Holds (if b then v else w)
covers_either true v w one other = one
covers_either false v w one other = other

covers_held : (inside : ℕ) (v : Verdict) → Covers Holds v → Covers (Held inside) v
covers_held inside Holds is = tt
covers_held inside (Fails outside) is = tt
covers_held inside (Held outside) is = absurd is

covers_closed : (b : Bool) (inside : ℕ) (v : Verdict) → Covers Holds v → Covers (if b then Holds else Held inside) v
covers_closed true inside v is = is
covers_closed false inside v is = covers_held inside v is

not_below : (inside outside : ℕ) → inside ≤ outside → (inside == 0) ≡ false → (outside == 0) ≡ true → ⊥
not_below inside outside within some none = grind (arith, nat_tests)

fails_close : (wanted b c : Bool) (inside outside : ℕ) → inside ≤ outside → (inside == 0) ≡ b → (outside == 0) ≡ c
    → Covers (if b then joined false wanted else Fails (inside - 1)) (if c then joined false wanted else Fails (outside - 1))
fails_close wanted true true inside outside within is other = covers_itself wanted
fails_close wanted true false inside outside within is other = covers_deeper wanted (outside - 1)
fails_close wanted false true inside outside within is other = absurd (not_below inside outside within is other)
fails_close wanted false false inside outside within is other = omega arith

fails_next : (b c : Bool) (inside outside : ℕ) → inside ≤ outside → (inside == 0) ≡ b → (outside == 0) ≡ c
    → Covers (if b then Holds else Fails inside) (if c then Holds else Fails outside)
fails_next true true inside outside within is other = tt
fails_next true false inside outside within is other = tt
fails_next false true inside outside within is other = absurd (not_below inside outside within is other)
fails_next false false inside outside within is other = within

held_close : (wanted b c : Bool) (inside outside : ℕ) → outside ≤ inside → (inside == 0) ≡ b → (outside == 0) ≡ c
    → Covers (if b then Holds else Held (inside - 1)) (if c then joined true wanted else Held (outside - 1))
held_close wanted b true inside outside within is other =
    covers_closed b (inside - 1) (joined true wanted) (covers_joined true wanted)
held_close wanted true false inside outside within is other = absurd (not_below outside inside within other is)
held_close wanted false false inside outside within is other = omega arith

path_covers : (holds : Bool) → holds ≡ false → Covers (Fails 0) (joined holds true)
path_covers true is = cc
path_covers false is = omega arith

covers_behind : (scopes : Scopes) (sign : Sign) (most v : Verdict) → LacksOfEach (keys_at most sign) scopes
    → Covers most v → Covers (most_behind sign most) (behind scopes sign v)
covers_behind scopes (Path names true) Holds Holds lacks is =
    path_covers (path_holds names scopes) (path_lacks scopes names lacks.0)
covers_behind scopes (Path names true) Holds (Fails outside) lacks is = omega arith
covers_behind scopes (Path names false) Holds Holds lacks is = covers_joined (path_holds names scopes) false
covers_behind scopes (Path names false) Holds (Fails outside) lacks is = tt
covers_behind scopes sign Holds (Held outside) lacks is = absurd is
covers_behind scopes (Path names wanted) (Fails inside) (Fails outside) lacks is = is
covers_behind scopes sign (Fails inside) Holds lacks is = absurd is
covers_behind scopes sign (Fails inside) (Held outside) lacks is = absurd is
covers_behind scopes (Path names wanted) (Held inside) Holds lacks is =
    covers_held inside (joined (path_holds names scopes) wanted) (covers_joined (path_holds names scopes) wanted)
covers_behind scopes (Path names wanted) (Held inside) (Fails outside) lacks is = tt
covers_behind scopes (Path names wanted) (Held inside) (Held outside) lacks is = is
covers_behind scopes Opens Holds Holds lacks is = tt
covers_behind scopes Opens Holds (Fails outside) lacks is = tt
covers_behind scopes Opens (Fails inside) (Fails outside) lacks is = omega arith
covers_behind scopes Opens (Held inside) Holds lacks is = tt
covers_behind scopes Opens (Held inside) (Fails outside) lacks is = tt
covers_behind scopes Opens (Held inside) (Held outside) lacks is = omega arith
covers_behind scopes (Closes wanted) Holds Holds lacks is = covers_joined true wanted
covers_behind scopes (Closes wanted) Holds (Fails outside) lacks is =
    covers_either (outside == 0) (joined false wanted) (Fails (outside - 1)) (covers_joined false wanted) tt
covers_behind scopes (Closes wanted) (Fails inside) (Fails outside) lacks is =
    fails_close wanted (inside == 0) (outside == 0) inside outside is refl refl
covers_behind scopes (Closes wanted) (Held inside) Holds lacks is =
    covers_closed (inside == 0) (inside - 1) (joined true wanted) (covers_joined true wanted)
covers_behind scopes (Closes wanted) (Held inside) (Fails outside) lacks is =
    covers_closed (inside == 0) (inside - 1) (if outside == 0 then joined false wanted else Fails (outside - 1))
    (covers_either (outside == 0) (joined false wanted) (Fails (outside - 1)) (covers_joined false wanted) tt)
covers_behind scopes (Closes wanted) (Held inside) (Held outside) lacks is =
    held_close wanted (inside == 0) (outside == 0) inside outside is refl refl
covers_behind scopes Next Holds Holds lacks is = omega arith
covers_behind scopes Next Holds (Fails outside) lacks is =
    covers_held 0 (if outside == 0 then Holds else Fails outside) (covers_either (outside == 0) Holds (Fails outside) tt tt)
covers_behind scopes Next (Fails inside) (Fails outside) lacks is =
    fails_next (inside == 0) (outside == 0) inside outside is refl refl
covers_behind scopes Next (Held inside) Holds lacks is = omega arith
covers_behind scopes Next (Held inside) (Fails outside) lacks is =
    covers_held inside (if outside == 0 then Holds else Fails outside)
    (covers_either (outside == 0) Holds (Fails outside) tt tt)
covers_behind scopes Next (Held inside) (Held outside) lacks is = is

lacks_parts : (one other : List (List ℕ)) (scopes : Scopes) → LacksOfEach (one ++ other) scopes
    → LacksOfEach one scopes × LacksOfEach other scopes
lacks_parts [] other scopes lacks = (tt, lacks)
lacks_parts (keys ∷ one) other scopes lacks =
    let rest = lacks_parts one other scopes lacks.1 in
    ((lacks.0, rest.0), rest.1)

covers_run : (scopes : Scopes) (signs : List Sign) (most v : Verdict) → LacksOfEach (keys_behind signs most) scopes
    → Covers most v → Covers (most_of signs most) (run scopes signs v)
covers_run scopes [] most v lacks is = is
covers_run scopes (sign ∷ signs) most v lacks is =
    let parts = lacks_parts (keys_at most sign) (keys_behind signs (most_behind sign most)) scopes lacks in
    covers_run scopes signs (most_behind sign most) (behind scopes sign v) parts.1
    (covers_behind scopes sign most v parts.0 is)

failed : (inside : ℕ) (v : Verdict) → Covers (Fails inside) v → is_true v ≡ false
failed inside Holds is = absurd is
failed inside (Fails outside) is = refl
failed inside (Held outside) is = absurd is

pub signs_need : (signs : List Sign) (needed : List (List ℕ)) (inside : ℕ) → needed ≡ keys_behind signs Holds
    → most_of signs Holds ≡ Fails inside → SignsNeed signs needed
signs_need signs needed inside keys fails =
    λ scopes lacks. failed inside (run scopes signs Holds)
    (subst (λ most. Covers most (run scopes signs Holds)) fails
    (covers_run scopes signs Holds Holds (subst (λ all. LacksOfEach all scopes) keys lacks) tt))
