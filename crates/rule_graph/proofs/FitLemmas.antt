-- Rules with their active lists fit into a table.
use Rattle.std.proofs.Common.{◌≡◌, ℕ, zero, suc, ◌+◌, ◌<◌, ◌≤◌, List, [], ◌∷◌, ◌++◌, refl, ap, sym, ◌∙◌, subst}
use Rattle.std.proofs.Common.{length, arith, map, max, All, get_or, drop, drop_of_length-le}
use Rattle.std.specs.Prelude.{Bool, true, false}
use Rattle.std.proofs.lemmas.List.{drop_more}
use Rattle.rule_defs.specs.Rules.{Slot, Never, Read, Later, Rule}
use Rattle.grammar_defs.specs.FileRules.{Grammar}
use Rattle.grammar_defs.specs.GrammarShape.{rule_count}
use Rattle.graph_defs.specs.ListedRules.{listed_rules}
use Rattle.graph_defs.specs.ActiveLists.{rule_at, is_group, with_one, none, opened, active_list}
use Rattle.graph_defs.specs.ActiveLists.{with_active, active_rules}
use Rattle.graph_defs.specs.GraphMeaning.{slot_groups, rule_groups, most_groups}
use Rattle.rule_table.specs.Views.{rule_of}
use Rattle.rule_table.specs.declared.rule.Rule.{Rule as TableRule}
use Rattle.rule_table.specs.Fits.{HasRoom, IsEntry, IsRule, AreRules}
use Rattle.rule_graph.specs.Opening.{AreWithin}
use Rattle.rule_graph.proofs.ActiveLemmas.{opened_end, opened_rule, opened_again, opened_group, opened_out}
use Rattle.rule_graph.proofs.RangeLemmas.{Each, each_append, all_of_each, Below, IsListed, all_below}

-- what is opened is below where all that is listed is

at_below : (count : ℕ) (rules : List Rule) (n : ℕ) → Each (IsListed count) rules
    → Each (Below count) (rule_at rules n).active
at_below count [] n below = tt
at_below count (r ∷ rules) zero below = below.0.active
at_below count (r ∷ rules) (suc n) below = at_below count rules n below.1

last_below : (count : ℕ) (rules : List Rule) (p : ℕ → Bool) (n : ℕ) (others : List ℕ)
    → Below count n → Each (Below count) (opened zero rules p others)
    → (group is : Bool) → is_group (rule_at rules n).kind ≡ group → p n ≡ is
    → Each (Below count) (opened zero rules p (n ∷ others))
last_below count rules p n others below rest false is no_group e =
    subst (Each (Below count)) (sym (opened_rule zero rules p n others no_group)) (below, rest)
last_below count rules p n others below rest true true group e =
    subst (Each (Below count)) (sym (opened_again zero rules p n others group e)) rest
last_below count rules p n others below rest true false group e =
    subst (Each (Below count)) (sym (opened_out rules p n others group e)) tt

more_below : (count more : ℕ) (rules : List Rule) (p : ℕ → Bool) (n : ℕ) (others : List ℕ)
    → Below count n → Each (Below count) (opened (suc more) rules p others)
    → Each (Below count) (opened more rules (with_one n p) ((rule_at rules n).active ++ others))
    → (group is : Bool) → is_group (rule_at rules n).kind ≡ group → p n ≡ is
    → Each (Below count) (opened (suc more) rules p (n ∷ others))
more_below count more rules p n others below rest listed false is no_group e =
    subst (Each (Below count)) (sym (opened_rule (suc more) rules p n others no_group)) (below, rest)
more_below count more rules p n others below rest listed true true group e =
    subst (Each (Below count)) (sym (opened_again (suc more) rules p n others group e)) rest
more_below count more rules p n others below rest listed true false group e =
    subst (Each (Below count)) (sym (opened_group more rules p n others group e)) listed

pub opened_below : (count more : ℕ) (rules : List Rule) (p : ℕ → Bool) (list : List ℕ) → Each (IsListed count) rules
    → Each (Below count) list → Each (Below count) (opened more rules p list)
opened_below count more rules p [] all below = subst (Each (Below count)) (sym (opened_end more rules p)) tt
opened_below count zero rules p (n ∷ others) all below =
    last_below count rules p n others below.0 (opened_below count zero rules p others all below.1)
    (is_group (rule_at rules n).kind) (p n) refl refl
opened_below count (suc more) rules p (n ∷ others) all below =
    more_below count more rules p n others below.0 (opened_below count (suc more) rules p others all below.1)
    (opened_below count more rules (with_one n p) ((rule_at rules n).active ++ others) all
    (each_append (Below count) (rule_at rules n).active others (at_below count rules n all) below.1))
    (is_group (rule_at rules n).kind) (p n) refl refl

-- room for the groups of patterns

room_of : (groups : ℕ) (slot : Slot) → slot_groups slot ≤ groups → HasRoom groups slot
room_of groups Never le = tt
room_of groups (Read tree) le = le
room_of groups (Later text most) le = le

fit_one : (count groups : ℕ) (all : List Rule) (r : Rule) → Each (IsListed count) all → IsListed count r
    → rule_groups r ≤ groups → IsRule count groups (with_active all r)
fit_one count groups all r within below le = record {
  start = room_of groups r.start (omega (arith, le));
  finish = room_of groups r.finish (omega (arith, le));
  start_captures = all_of_each (IsEntry count) r.start_captures below.start_captures;
  finish_captures = all_of_each (IsEntry count) r.finish_captures below.finish_captures;
  active =
      all_of_each (Below count) (active_list all r.active) (opened_below count (length all) all none r.active within
      below.active);
}

fit_each : (count groups : ℕ) (all rules : List Rule) → Each (IsListed count) all → Each (IsListed count) rules
    → most_groups (map (with_active all) rules) ≤ groups
    → Each (IsRule count groups) (map (with_active all) rules)
fit_each count groups all [] within below le = tt
fit_each count groups all (r ∷ rules) within below le = (
  fit_one count groups all r within below.0 (omega (arith, le)),
  fit_each count groups all rules within below.1 (omega (arith, le)),
)

-- those of a grammar do
pub grammar_fits : (g : Grammar)
    → AreRules (rule_count g) (most_groups (active_rules (listed_rules g))) (active_rules (listed_rules g))
grammar_fits g =
    all_of_each (IsRule (rule_count g) (most_groups (active_rules (listed_rules g)))) (active_rules
    (listed_rules g))
    (fit_each (rule_count g) (most_groups (active_rules (listed_rules g))) (listed_rules g) (listed_rules g)
    (all_below g) (all_below g) (omega arith))

within_each : (count : ℕ) (rules : List Rule) → Each (IsListed count) rules
    → Each (λ r. All (λ id. id < count) r.active) rules
within_each count [] below = tt
within_each count (r ∷ rules) below =
    (all_of_each (Below count) r.active below.0.active, within_each count rules below.1)

pub grammar_within : (g : Grammar) → AreWithin (rule_count g) (listed_rules g)
grammar_within g =
    all_of_each (λ r. All (λ id. id < rule_count g) r.active) (listed_rules g)
    (within_each (rule_count g) (listed_rules g) (all_below g))

-- the most groups, rule by rule
pub most_next : (m : ℕ) (rules : List TableRule) (i : ℕ) (r : TableRule) → i < length rules → r ≡ get_or rules i r
    → max (max m (rule_groups (rule_of r))) (most_groups (map rule_of (drop (i + 1) rules)))
    ≡ max m (most_groups (map rule_of (drop i rules)))
most_next m rules i r lt is =
    let next : most_groups (map rule_of (drop i rules))
    ≡ max (rule_groups (rule_of r)) (most_groups (map rule_of (drop (i + 1) rules))) =
    ap (λ xs. most_groups (map rule_of xs)) (drop_more rules i r lt)
    ∙ ap (λ x. max (rule_groups (rule_of x)) (most_groups (map rule_of (drop (i + 1) rules)))) (sym is) in
    omega (arith, next)

pub most_done : (m : ℕ) (rules : List TableRule) (i : ℕ) → length rules ≤ i
    → max m (most_groups (map rule_of (drop i rules))) ≡ m
most_done m rules i le =
    let end = ap (λ xs. most_groups (map rule_of xs)) (drop_of_length-le rules le) in omega (arith, end)
