-- Active lists of rules, one after the other.
use Rattle.std.proofs.Common.{◌≡◌, ℕ, ◌+◌, ◌<◌, ◌≤◌, List, [], ◌∷◌, ◌++◌, refl, ap, sym, ◌∙◌, subst}
use Rattle.std.proofs.Common.{length, get_or, set, arith, cond, map, All, drop, append_assoc}
use Rattle.std.specs.Prelude.{true, false, nat_lt, Option, Some}
use Rattle.std.specs.List.{find}
use Rattle.std.proofs.lemmas.List.{length-map, get_or-map, drop_more, map-append}
use Rattle.rule_defs.specs.Rules.{Rule}
use Rattle.scope_defs.specs.declared.types.RuleId.{RuleId}
use Rattle.rule_table.specs.Views.{rule_of}
use Rattle.rule_table.specs.declared.rule.Rule.{Rule as TableRule}
use Rattle.graph_defs.specs.declared.limits.TheConstants.{MOST_ACTIVE}
use Rattle.graph_defs.specs.ActiveLists.{active_list, active_rules, with_active}
use Rattle.graph_defs.specs.GraphMeaning.{sums_from, over_limit}
use Rattle.rule_graph.specs.Listing.{numbers}
use Rattle.rule_graph.specs.Opening.{AreWithin, with_lists}

-- the active list of a rule
abbrev pub list_of : List Rule → Rule → List ℕ
list_of all r = active_list all r.active

-- the first sum above the limit, where the lists of these rules are added to a sum
abbrev pub over_from : List Rule → ℕ → List Rule → Option ℕ
over_from all sum rest =
    find (nat_lt MOST_ACTIVE) (sums_from sum (map (λ r. length r.active) (map (with_active all) rest)))

-- How far the lists are made: those of the first rules, with the sum of their lengths.
pub record IsListing (rules : List TableRule) (stamps : List ℕ) (stamp sum : ℕ) (made : List (List RuleId))
    (turn : ℕ) : Type 0 where
  pub len : length stamps ≡ length rules
  pub low : All (λ s. s < stamp + 1) stamps
  pub at : stamp ≡ turn
  pub lists : map numbers made ++ map (list_of (map rule_of rules)) (map rule_of (drop turn rules))
      ≡ map (list_of (map rule_of rules)) (map rule_of rules)
  pub over : over_from (map rule_of rules) sum (map rule_of (drop turn rules))
      ≡ over_limit (active_rules (map rule_of rules))
  pub small : sum ≤ MOST_ACTIVE

next_rules : (rules : List TableRule) (turn : ℕ) (r : TableRule) → turn < length rules → r ≡ get_or rules turn r
    → map rule_of (drop turn rules) ≡ rule_of r ∷ map rule_of (drop (turn + 1) rules)
next_rules rules turn r lt is =
    ap (map rule_of) (drop_more rules turn r lt) ∙ ap (λ x. rule_of x ∷ map rule_of (drop (turn + 1) rules)) (sym is)

-- what the next list comes to
over_next : (rules : List TableRule) (stamps : List ℕ) (stamp sum : ℕ) (made : List (List RuleId)) (turn : ℕ)
    (r : TableRule) (list : List RuleId) → IsListing rules stamps stamp sum made turn → turn < length rules
    → r ≡ get_or rules turn r → numbers list ≡ active_list (map rule_of rules) (numbers r.active)
    → cond (nat_lt MOST_ACTIVE (sum + length list)) (Some (sum + length list))
    (over_from (map rule_of rules) (sum + length list) (map rule_of (drop (turn + 1) rules)))
    ≡ over_limit (active_rules (map rule_of rules))
over_next rules stamps stamp sum made turn r list so lt is gives =
    let all = map rule_of rules in
    let rest = map rule_of (drop (turn + 1) rules) in
    let long : length list ≡ length (active_list all (numbers r.active)) =
    sym (length-map list (λ id. id.0)) ∙ ap length gives in
    ap (λ n. cond (nat_lt MOST_ACTIVE (sum + n)) (Some (sum + n)) (over_from all (sum + n) rest)) long
    ∙ ap (over_from all sum) (sym (next_rules rules turn r lt is))
    ∙ so.over

pub too_wide_at : (rules : List TableRule) (stamps : List ℕ) (stamp sum : ℕ) (made : List (List RuleId)) (turn : ℕ)
    (r : TableRule) (list : List RuleId) → IsListing rules stamps stamp sum made turn → turn < length rules
    → r ≡ get_or rules turn r → numbers list ≡ active_list (map rule_of rules) (numbers r.active)
    → nat_lt MOST_ACTIVE (sum + length list) ≡ true
    → over_limit (active_rules (map rule_of rules)) ≡ Some (sum + length list)
too_wide_at rules stamps stamp sum made turn r list so lt is gives wide =
    let all = map rule_of rules in
    sym (over_next rules stamps stamp sum made turn r list so lt is gives)
    ∙ ap (λ b. cond b (Some (sum + length list)) (over_from all (sum + length list) (map rule_of
    (drop (turn + 1) rules)))) wide

pub listing_next : (rules : List TableRule) (stamps stamps' : List ℕ) (stamp sum : ℕ) (made : List (List RuleId))
    (turn : ℕ) (r : TableRule) (list : List RuleId) → IsListing rules stamps stamp sum made turn → turn < length rules
    → r ≡ get_or rules turn r → numbers list ≡ active_list (map rule_of rules) (numbers r.active)
    → nat_lt MOST_ACTIVE (sum + length list) ≡ false → sum + length list ≤ MOST_ACTIVE
    → length stamps' ≡ length stamps → All (λ s. s < stamp + 1 + 1) stamps'
    → IsListing rules stamps' (stamp + 1) (sum + length list) (made ++ list ∷ []) (turn + 1)
listing_next rules stamps stamps' stamp sum made turn r list so lt is gives few small len low = record {
  len = len ∙ so.len;
  low = low;
  at = ap (λ n. n + 1) so.at;
  lists =
      let all = map rule_of rules in
      let rest = map (list_of all) (map rule_of (drop (turn + 1) rules)) in
      ap (λ xs. xs ++ rest) (map-append numbers made (list ∷ []))
      ∙ append_assoc (map numbers made) (numbers list ∷ []) rest
      ∙ ap (λ xs. map numbers made ++ xs ∷ rest) gives
      ∙ ap (λ xs. map numbers made ++ map (list_of all) xs) (sym (next_rules rules turn r lt is))
      ∙ so.lists;
  over =
      let all = map rule_of rules in
      ap (λ b. cond b (Some (sum + length list)) (over_from all (sum + length list) (map rule_of
      (drop (turn + 1) rules)))) (sym few)
      ∙ over_next rules stamps stamp sum made turn r list so lt is gives;
  small = small;
}

pub within_at : (count : ℕ) (rules : List TableRule) (i : ℕ) (r : TableRule) → i < length rules
    → r ≡ get_or rules i r → AreWithin count (map rule_of rules) → All (λ id. id < count) (numbers r.active)
within_at count rules i r lt is within =
    subst (λ x. All (λ id. id < count) x.active) (get_or-map rule_of rules i r (rule_of r) lt ∙ ap rule_of (sym is))
    (within i (rule_of r) (omega (arith, lt, length-map rules rule_of)))

-- rules get their lists from the last one on

pub with_lists_end : (rules : List Rule) → with_lists rules [] ≡ rules
with_lists_end [] = refl
with_lists_end (r ∷ rules) = refl

abbrev pub with_ids : TableRule → List RuleId → TableRule
with_ids r ids = record r { active = ids }

pub with_lists_last : (rules : List TableRule) (lists : List (List RuleId)) (ids : List RuleId) (r : TableRule)
    → length lists < length rules
    → with_lists (map rule_of (set rules (length lists) (with_ids (get_or rules (length lists) r) ids)))
    (map numbers lists)
    ≡ with_lists (map rule_of rules) (map numbers (lists ++ ids ∷ []))
with_lists_last [] lists ids r lt = absurd (omega arith)
with_lists_last (x ∷ rules) [] ids r lt =
    ap (λ xs. record (rule_of x) { active = numbers ids } ∷ xs) (sym (with_lists_end (map rule_of rules)))
with_lists_last (x ∷ rules) (l ∷ lists) ids r lt =
    ap (λ xs. record (rule_of x) { active = numbers l } ∷ xs) (with_lists_last rules lists ids r (omega arith))

with_lists_of : (all rules : List Rule) → with_lists rules (map (list_of all) rules) ≡ map (with_active all) rules
with_lists_of all [] = refl
with_lists_of all (r ∷ rules) = ap (λ xs. with_active all r ∷ xs) (with_lists_of all rules)

pub all_active : (rules : List Rule) → with_lists rules (map (list_of rules) rules) ≡ active_rules rules
all_active rules = with_lists_of rules rules

-- the last rule that has no list yet gets its own
pub set_step : (rules : List TableRule) (lists : List (List RuleId)) (ids : List RuleId) (n : ℕ) (r : TableRule)
    → length lists < length rules → n ≡ length lists → r ≡ get_or rules n r
    → with_lists (map rule_of (set rules n (with_ids r ids))) (map numbers lists)
    ≡ with_lists (map rule_of rules) (map numbers (lists ++ ids ∷ []))
set_step rules lists ids n r lt is at =
    ap (λ x. with_lists (map rule_of (set rules n (with_ids x ids))) (map numbers lists)) at
    ∙ ap (λ k. with_lists (map rule_of (set rules k (with_ids (get_or rules k r) ids))) (map numbers lists)) is
    ∙ with_lists_last rules lists ids r lt
