-- Injections: rules that are searched besides those of the top frame, where a selector holds of its content scopes. As
-- vscode-textmate has it.
use Rattle.std.specs.Prelude.{ℕ, ◌==◌, nat_lt, List, [], ◌∷◌, Bool, true, false, ◌&&◌, ◌||◌, if◌then◌else◌, Option}
use Rattle.std.specs.Prelude.{Some, None}
use Rattle.scope_defs.specs.Scopes.{Scopes}
use Rattle.rule_defs.specs.Rules.{Injection}
use Rattle.line_defs.specs.Machine.{Machine}
use Rattle.line_defs.specs.Runs.{State}
use Rattle.line_defs.specs.Search.{Matched, Found, Nothing, OutOfBudget, At, Sight, rule_choices, scan, sight, ordinary}

-- the best match of injections so far, and whether its injection goes before the ordinary match
pub record Kept : Type 0 where
  pub matched : Matched
  pub goes_first : Bool

-- what injections find: that an attempt was spent, or their best match
pub data Injected : Type 0 where
  InjectedSpent : Injected
  Keeps : Option Kept → Injected

-- the earliest match is kept, and of those that start together the first
abbrev pub is_earlier : Matched → Option Kept → Bool
is_earlier m None = true
is_earlier m (Some kept) = nat_lt m.from kept.matched.from

-- a match at the place of the search ends it
abbrev pub kept_then : (here : Bool) → Option Kept → (Option Kept → Injected) → Injected
kept_then true kept next = Keeps kept
kept_then false kept next = next kept

abbrev pub weighed : (earlier : Bool) → (place : ℕ) → (goes_first : Bool) → Matched → Option Kept
    → (Option Kept → Injected) → Injected
weighed true place goes_first m kept next =
    kept_then (m.from == place) (Some (record { matched = m; goes_first = goes_first })) next
weighed false place goes_first m kept next = next kept

-- what one injection finds is weighed against the best so far, and the search goes on with the next
abbrev pub after_one : Sight → Found → (goes_first : Bool) → Option Kept → (Option Kept → Injected) → Injected
after_one sight Nothing goes_first kept next = next kept
after_one sight OutOfBudget goes_first kept next = InjectedSpent
after_one sight (At m) goes_first kept next = weighed (is_earlier m kept) sight.place goes_first m kept next

abbrev pub scan_where : (holds : Bool) → Machine → Sight → (numbers : List ℕ) → Found
scan_where true machine sight numbers = scan sight (rule_choices machine numbers)
scan_where false machine sight numbers = Nothing

-- the injections in order, those whose selector holds of some scopes
abbrev pub injected : Machine → Sight → Scopes → List Injection → Option Kept → Injected
injected machine sight scopes [] kept = Keeps kept
injected machine sight scopes (i ∷ is) kept =
    after_one sight (scan_where (i.holds scopes) machine sight i.rules) i.goes_first kept
    (injected machine sight scopes is)

-- a match of injections wins where it starts earlier, or at the same place and goes first
abbrev pub wins : Kept → Matched → Bool
wins kept m = nat_lt kept.matched.from m.from || (kept.goes_first && (kept.matched.from == m.from))

abbrev pub decided : (ordinary : Found) → Injected → Found
decided ordinary InjectedSpent = OutOfBudget
decided ordinary (Keeps None) = ordinary
decided (At m) (Keeps (Some kept)) = if wins kept m then At kept.matched else At m
decided _ (Keeps (Some kept)) = At kept.matched

-- injections are searched whatever the ordinary patterns find, but for a spent attempt
abbrev pub with_injections : Machine → Sight → Scopes → (ordinary : Found) → Found
with_injections machine sight scopes OutOfBudget = OutOfBudget
with_injections machine sight scopes ordinary = decided ordinary (injected machine sight scopes machine.injections None)

-- The search of a turn.
abbrev pub search : Machine → (text : List ℕ) → State → Found
search machine text state =
    with_injections machine (sight machine text state) state.stack.top.content (ordinary machine text state)
