-- Active lists: the rules that are searched inside a rule. Each group in its list is replaced by the rules that the
-- group lists, from left to right, up to a list without groups. A group that was replaced before in this list adds
-- nothing.
use Rattle.std.specs.Prelude.{ℕ, zero, suc, ◌==◌, ◌||◌, List, [], ◌∷◌, ◌++◌, length, Bool, true, false}
use Rattle.std.specs.Prelude.{slice_get, unwrap_or, map, if◌then◌else◌}
use Rattle.rule_defs.specs.Rules.{Kind, Match, BeginEnd, BeginWhile, Group, Rule, no_rule}

-- the rule with a number
abbrev pub rule_at : List Rule → ℕ → Rule
rule_at rules n = unwrap_or (slice_get rules n) no_rule

abbrev pub is_group : Kind → Bool
is_group Match = false
is_group BeginEnd = false
is_group BeginWhile = false
is_group Group = true

-- which groups were replaced, and those with one more
abbrev pub with_one : ℕ → (ℕ → Bool) → ℕ → Bool
with_one n replaced = λ k. k == n || replaced k

abbrev pub none : ℕ → Bool
none n = false

-- A list without its groups, where `later` gives the rest of it once a group is replaced.
abbrev pub opened_by : ((ℕ → Bool) → List ℕ → List ℕ) → List Rule → (ℕ → Bool) → List ℕ → List ℕ
opened_by later rules replaced [] = []
opened_by later rules replaced (n ∷ others) =
    if is_group (rule_at rules n).kind
    then (if replaced n then opened_by later rules replaced others
    else later (with_one n replaced) ((rule_at rules n).active ++ others))
    else n ∷ opened_by later rules replaced others

-- The same, where so many groups may still be replaced.
abbrev pub opened : ℕ → List Rule → (ℕ → Bool) → List ℕ → List ℕ
opened zero rules = opened_by (λ replaced list. []) rules
opened (suc more) rules = opened_by (opened more rules) rules

-- no more groups can be replaced than there are rules
abbrev pub active_list : List Rule → List ℕ → List ℕ
active_list rules list = opened (length rules) rules none list

abbrev pub with_active : List Rule → Rule → Rule
with_active rules r = record r { active = active_list rules r.active }

-- rules with their active lists, of rules as a file lists them
abbrev pub active_rules : List Rule → List Rule
active_rules rules = map (with_active rules) rules
