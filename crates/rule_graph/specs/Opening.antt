-- What active lists are told of, and what answers say of them.
use Rattle.std.specs.Prelude.{◌≡◌, ℕ, ◌<◌, List, [], ◌∷◌, map, All, Result, Ok, Err, Some, None, ⊤}
use Rattle.std.specs.Global.{Vec}
use Rattle.scope_defs.specs.declared.types.RuleId.{RuleId}
use Rattle.rule_defs.specs.Rules.{Rule}
use Rattle.graph_defs.specs.ActiveLists.{active_list, active_rules}
use Rattle.graph_defs.specs.GraphMeaning.{over_limit}
use Rattle.rule_graph.specs.Listing.{numbers}
use Rattle.rule_graph.specs.declared.graph.GraphRefusal.{GraphRefusal}
use Rattle.rule_graph.specs.declared.graph.GraphRefusal.TheVariants.{TooWide, Memory}

-- all rules that are listed are among so many
abbrev pub AreWithin : ℕ → List Rule → Type 0
AreWithin count rules = All (λ r. All (λ id. id < count) r.active) rules

-- the first rules with these lists
abbrev pub with_lists : List Rule → List (List ℕ) → List Rule
with_lists [] lists = []
with_lists (r ∷ rules) [] = r ∷ rules
with_lists (r ∷ rules) (list ∷ lists) = record r { active = list } ∷ with_lists rules lists

abbrev pub GivesLists : Result (Vec (List RuleId)) GraphRefusal → List Rule → Type 0
GivesLists (Ok lists) rules =
    (map numbers lists.items ≡ map (λ r. active_list rules r.active) rules) × (over_limit (active_rules rules) ≡ None)
GivesLists (Err (TooWide count)) rules = over_limit (active_rules rules) ≡ Some count
GivesLists (Err Memory) rules = ⊤
