-- Injections as a grammar lists them, by numbers of rules, and as they are searched. Selectors and priorities are those
-- of vscode-textmate; the order of equal priorities, and that a rule with a pattern of its own is injected as that one
-- rule, are this project's own.
use Rattle.std.specs.Prelude.{ℕ, zero, suc, ◌==◌, List, [], ◌∷◌, ◌++◌, map, Bool, true, false, ℤ, pos, negsuc}
use Rattle.std.specs.Prelude.{unwrap_or, slice_get}
use Rattle.std.specs.List.{filter}
use Rattle.scope_defs.specs.Scopes.{Scopes}
use Rattle.scope_defs.specs.Selectors.{holds}
use Rattle.scope_defs.specs.SelectorSyntax.{entry_at}
use Rattle.rule_defs.specs.Rules.{Kind, Match, BeginEnd, BeginWhile, Group, Rule, Injection, no_rule}

-- an entry of a selector, from 0, its priority, and the number of the rule that it injects
pub record Listed : Type 0 where
  pub priority : ℤ
  pub selector : List ℕ
  pub entry : ℕ
  pub rule : ℕ

-- ---- in which order they are searched

-- the places of priorities: -1 is 0, 0 is 1, and 1 is 2
abbrev pub rank : ℤ → ℕ
rank (negsuc n) = 0
rank (pos zero) = 1
rank (pos (suc n)) = 2

abbrev pub has_rank : ℕ → Listed → Bool
has_rank n i = rank i.priority == n

-- by priority; those of one priority stay in the order in which they stand
abbrev pub in_order : List Listed → List Listed
in_order all = filter (has_rank 0) all ++ (filter (has_rank 1) all ++ filter (has_rank 2) all)

-- ---- how one is searched

-- an injection of priority -1 goes before an ordinary match at the same place
abbrev pub goes_first : ℤ → Bool
goes_first (pos n) = false
goes_first (negsuc zero) = true
goes_first (negsuc (suc n)) = false

-- a rule as a group: what a group lists, and any other rule by itself
abbrev pub as_group : Kind → (number : ℕ) → (active : List ℕ) → List ℕ
as_group Match number active = number ∷ []
as_group BeginEnd number active = number ∷ []
as_group BeginWhile number active = number ∷ []
as_group Group number active = active

abbrev pub rule_at : List Rule → ℕ → Rule
rule_at rules n = unwrap_or (slice_get rules n) no_rule

abbrev pub rules_of : List Rule → Listed → List ℕ
rules_of rules i = as_group (rule_at rules i.rule).kind i.rule (rule_at rules i.rule).active

abbrev pub holds_of : Listed → Scopes → Bool
holds_of i scopes = holds (entry_at i.selector i.entry).matcher scopes

abbrev pub injection_of : List Rule → Listed → Injection
injection_of rules i = record { goes_first = goes_first i.priority; holds = holds_of i; rules = rules_of rules i }

-- those of a grammar, of rules with their active lists
abbrev pub injections_of : List Rule → List Listed → List Injection
injections_of rules all = map (injection_of rules) all
