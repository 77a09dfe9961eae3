-- With no injections a search finds what the patterns of the top frame find.
use Rattle.std.proofs.Common.{◌≡◌, ℕ, List, [], refl, ap, ◌∙◌}
use Rattle.std.specs.Prelude.{None}
use Rattle.scope_defs.specs.Scopes.{Scopes}
use Rattle.line_defs.specs.Machine.{Machine}
use Rattle.line_defs.specs.Runs.{State}
use Rattle.line_defs.specs.Search.{Found, Nothing, OutOfBudget, At, Sight, sight, ordinary}
use Rattle.line_defs.specs.Injections.{Keeps, injected, decided, with_injections, search}

pub keeps_none : (ordinary : Found) → decided ordinary (Keeps None) ≡ ordinary
keeps_none Nothing = refl
keeps_none OutOfBudget = refl
keeps_none (At m) = refl

without : (machine : Machine) (s : Sight) (scopes : Scopes) (found : Found) → machine.injections ≡ [] →
    with_injections machine s scopes found ≡ found
without machine s scopes OutOfBudget none = refl
without machine s scopes Nothing none =
    ap (λ is. decided Nothing (injected machine s scopes is None)) none ∙ keeps_none Nothing
without machine s scopes (At m) none =
    ap (λ is. decided (At m) (injected machine s scopes is None)) none ∙ keeps_none (At m)

pub search-ordinary : (machine : Machine) (text : List ℕ) (state : State) → machine.injections ≡ [] →
    search machine text state ≡ ordinary machine text state
search-ordinary machine text state none =
    without machine (sight machine text state) state.stack.top.content (ordinary machine text state) none
