-- How the signs of an entry are told without a stack: what can't change the verdict any more is passed over.
use Rattle.std.specs.Prelude.{ℕ, ◌+◌, ◌-◌, ◌==◌, Bool, true, false, List, [], ◌∷◌, if◌then◌else◌}
use Rattle.scope_defs.specs.Scopes.{Scopes}
use Rattle.scope_defs.specs.Selectors.{path_holds}
use Rattle.selectors.specs.declared.sign.Sign.{Sign}
use Rattle.selectors.specs.declared.sign.Sign.TheVariants.{Path, Opens, Closes, Next}
use Rattle.selectors.specs.declared.verdict.Verdict.{Verdict}
use Rattle.selectors.specs.declared.verdict.Verdict.TheVariants.{Holds, Fails, Held}

-- how many parentheses are open in what is passed over
abbrev pub depth : Verdict → ℕ
depth Holds = 0
depth (Fails inside) = inside
depth (Held inside) = inside

-- the verdict behind what must hold or must not
abbrev pub joined : Bool → Bool → Verdict
joined true true = Holds
joined true false = Fails 0
joined false true = Fails 0
joined false false = Holds

-- the verdict behind one more sign where an alternative is passed over, with so many parentheses open in it
abbrev pub behind_failed : Sign → ℕ → Verdict
behind_failed (Path names wanted) inside = Fails inside
behind_failed Opens inside = Fails (inside + 1)
behind_failed (Closes wanted) inside = if inside == 0 then joined false wanted else Fails (inside - 1)
behind_failed Next inside = if inside == 0 then Holds else Fails inside

-- the verdict behind one more sign
abbrev pub behind : Scopes → Sign → Verdict → Verdict
behind scopes sign (Fails inside) = behind_failed sign inside
behind scopes (Path names wanted) Holds = joined (path_holds names scopes) wanted
behind scopes (Path names wanted) (Held inside) = Held inside
behind scopes Opens Holds = Holds
behind scopes Opens (Held inside) = Held (inside + 1)
behind scopes (Closes wanted) Holds = joined true wanted
behind scopes (Closes wanted) (Held inside) = if inside == 0 then joined true wanted else Held (inside - 1)
behind scopes Next Holds = Held 0
behind scopes Next (Held inside) = Held inside

abbrev pub run : Scopes → List Sign → Verdict → Verdict
run scopes [] verdict = verdict
run scopes (sign ∷ signs) verdict = run scopes signs (behind scopes sign verdict)

abbrev pub is_true : Verdict → Bool
is_true Holds = true
is_true (Fails inside) = false
is_true (Held inside) = true
