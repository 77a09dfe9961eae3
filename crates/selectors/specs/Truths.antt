-- What the levels of a selector that is read say of scopes so far, and which verdict that is.
use Rattle.std.specs.Prelude.{◌≡◌, ℕ, zero, suc, ◌&&◌, not, Bool, true, false, if◌then◌else◌, List, [], ◌∷◌}
use Rattle.std.specs.Prelude.{Option, Some, None}
use Rattle.scope_defs.specs.Scopes.{Scopes}
use Rattle.scope_defs.specs.Selectors.{Matcher, holds}
use Rattle.scope_defs.specs.SelectorSyntax.{Level}
use Rattle.selectors.specs.declared.verdict.Verdict.{Verdict}
use Rattle.selectors.specs.declared.verdict.Verdict.TheVariants.{Holds, Fails, Held}

-- whether an alternative of a level holds, and whether all operands of the one at hand do
pub record Truth : Type 0 where
  pub either : Bool
  pub both : Bool

abbrev pub some_holds : Scopes → Option Matcher → Bool
some_holds scopes None = false
some_holds scopes (Some matcher) = holds matcher scopes

abbrev pub all_hold : Scopes → Option Matcher → Bool
all_hold scopes None = true
all_hold scopes (Some matcher) = holds matcher scopes

abbrev pub truth : Scopes → Level → Truth
truth scopes level = record { either = some_holds scopes level.either; both = all_hold scopes level.both }

-- a test that is wanted, or its contrary
abbrev pub turned : Bool → Bool → Bool
turned wanted holds = if wanted then holds else not holds

abbrev pub with_test : Bool → Truth → Truth
with_test holds t = record t { both = t.both && holds }

-- no alternative holds yet, and all operands so far do
abbrev pub GoOn : List Truth → Type 0
GoOn [] = Unit {0}
GoOn (t ∷ ts) = (t.either ≡ false) × (t.both ≡ true) × GoOn ts

-- so outside of so many levels, and in the last of these an operand doesn't hold
abbrev pub FailIn : ℕ → List Truth → Type 0
FailIn inside [] = ⊥
FailIn zero (t ∷ ts) = (t.either ≡ false) × (t.both ≡ false) × GoOn ts
FailIn (suc inside) (t ∷ ts) = FailIn inside ts

-- so outside of so many levels, and in the last of these an alternative holds
abbrev pub HeldIn : ℕ → List Truth → Type 0
HeldIn inside [] = ⊥
HeldIn zero (t ∷ ts) = (t.either ≡ true) × GoOn ts
HeldIn (suc inside) (t ∷ ts) = HeldIn inside ts

abbrev pub Tells : Verdict → List Truth → Type 0
Tells Holds ts = GoOn ts
Tells (Fails inside) ts = FailIn inside ts
Tells (Held inside) ts = HeldIn inside ts
