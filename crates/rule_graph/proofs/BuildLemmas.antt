-- From the listed rules of a grammar to its graph.
use Rattle.std.proofs.Common.{◌≡◌, ℕ, ◌+◌, ◌≤◌, List, ap, sym, ◌∙◌, subst, length, map, All, arith}
use Rattle.std.specs.Prelude.{Some, None}
use Rattle.std.proofs.lemmas.List.{length-map}
use Rattle.scope_defs.specs.declared.types.RuleId.{RuleId}
use Rattle.rule_defs.specs.Rules.{Rule}
use Rattle.grammar_defs.specs.FileRules.{Grammar}
use Rattle.grammar_defs.specs.GrammarShape.{rule_count}
use Rattle.graph_defs.specs.ListedRules.{listed_rules}
use Rattle.graph_defs.specs.ActiveLists.{active_rules, with_active as with_list}
use Rattle.graph_defs.specs.GraphMeaning.{FileGraph, graph, too_wide, graph_of, reading, reading_by}
use Rattle.graph_defs.specs.GraphMeaning.{over_limit, most_groups, unread_texts}
use Rattle.graph_defs.specs.ListedInjections.{injections, unread_keys}
use Rattle.injection_defs.specs.Injections.{Listed}
use Rattle.rule_table.specs.Views.{rule_of}
use Rattle.rule_table.specs.Fits.{AreRules, IsInjection}
use Rattle.rule_table.specs.declared.rule.Rule.{Rule as TableRule}
use Rattle.rule_graph.specs.Listing.{numbers}
use Rattle.rule_graph.specs.Opening.{AreWithin, with_lists}
use Rattle.rule_graph.proofs.FitLemmas.{grammar_fits, grammar_within}
use Rattle.rule_graph.proofs.RangeLemmas.{listed_count}
use Rattle.rule_graph.proofs.WalkLemmas.{small_whole}
use Rattle.rule_graph.proofs.InjectionLemmas.{injections_fit, few_unread_keys}
use Rattle.rule_graph.proofs.ListingLemmas.{all_active, list_of}

pub count_of : (g : Grammar) (rules : List TableRule) → map rule_of rules ≡ listed_rules g → length rules ≡ rule_count g
count_of g rules are = sym (length-map rules rule_of) ∙ ap length are ∙ listed_count g

pub within_of : (g : Grammar) (rules : List TableRule) → map rule_of rules ≡ listed_rules g
    → AreWithin (length rules) (map rule_of rules)
within_of g rules are =
    subst (λ n. AreWithin n (map rule_of rules)) (sym (count_of g rules are))
    (subst (AreWithin (rule_count g)) (sym are) (grammar_within g))

-- rules got their lists
pub made_of : (g : Grammar) (rules with_active : List TableRule) (lists : List (List RuleId))
    → map rule_of rules ≡ listed_rules g
    → map numbers lists ≡ map (list_of (map rule_of rules)) (map rule_of rules)
    → map rule_of with_active ≡ with_lists (map rule_of rules) (map numbers lists)
    → map rule_of with_active ≡ active_rules (listed_rules g)
made_of g rules with_active lists are listed set =
    set ∙ ap (with_lists (map rule_of rules)) listed ∙ all_active (map rule_of rules) ∙ ap active_rules are

pub lists_count : (rules : List TableRule) (lists : List (List RuleId))
    → map numbers lists ≡ map (list_of (map rule_of rules)) (map rule_of rules) → length lists ≡ length rules
lists_count rules lists listed =
    sym (length-map lists numbers) ∙ ap length listed
    ∙ length-map (map rule_of rules) (list_of (map rule_of rules)) ∙ length-map rules rule_of

pub made_count : (g : Grammar) (rules : List TableRule) → map rule_of rules ≡ active_rules (listed_rules g)
    → length rules ≡ rule_count g
made_count g rules are =
    sym (length-map rules rule_of) ∙ ap length are
    ∙ length-map (listed_rules g) (with_list (listed_rules g)) ∙ listed_count g

pub fits_of : (g : Grammar) (rules : List TableRule) (groups : ℕ) → map rule_of rules ≡ active_rules (listed_rules g)
    → groups ≡ most_groups (map rule_of rules) → AreRules (length rules) groups (map rule_of rules)
fits_of g rules groups are most =
    subst (λ n. AreRules n groups (map rule_of rules)) (sym (made_count g rules are))
    (subst (λ m. AreRules (rule_count g) m (map rule_of rules)) (sym (most ∙ ap most_groups are))
    (subst (AreRules (rule_count g) (most_groups (active_rules (listed_rules g)))) (sym are) (grammar_fits g)))

abbrev made : List Rule → List Listed → ℕ → ℕ → FileGraph
made rules injected groups unread =
    record { rules = rules; injections = injected; groups = groups; unread = unread }

made_same : {a b : List Rule} {i j : List Listed} {m n u v : ℕ} → a ≡ b → i ≡ j → m ≡ n → u ≡ v
    → made a i m u ≡ made b j n v
made_same {a} {b} {i} {j} {m} {n} {u} {v} e s f h =
    ap (λ rules. made rules i m u) e ∙ ap (λ all. made b all m u) s ∙ ap (λ groups. made b j groups u) f
    ∙ ap (made b j n) h

pub reading_of : (g : Grammar) (all rules : List Rule) (injected : List Listed) (groups count keys : ℕ)
    → all ≡ listed_rules g
    → over_limit (active_rules all) ≡ None → rules ≡ active_rules (listed_rules g) → injected ≡ injections g
    → groups ≡ most_groups rules → count ≡ unread_texts g → keys ≡ unread_keys g.injections
    → reading g ≡ graph (record { rules = rules; injections = injected; groups = groups; unread = count + keys })
reading_of g all rules injected groups count keys are few got listed most counted unread =
    ap (λ over. reading_by over (graph_of g)) (sym (ap (λ rs. over_limit (active_rules rs)) are) ∙ few)
    ∙ ap graph (sym (made_same got listed (most ∙ ap most_groups got)
    (ap (λ n. n + keys) counted ∙ ap (λ n. unread_texts g + n) unread)))

pub wide_of : (g : Grammar) (all : List Rule) (sum : ℕ) → all ≡ listed_rules g
    → over_limit (active_rules all) ≡ Some sum → reading g ≡ too_wide sum
wide_of g all sum are wide =
    ap (λ over. reading_by over (graph_of g)) (sym (ap (λ rs. over_limit (active_rules rs)) are) ∙ wide)

-- the injections of a grammar are of its rules
pub injections_of : (g : Grammar) (rules : List TableRule) (injected : List Listed)
    → map rule_of rules ≡ active_rules (listed_rules g) → injected ≡ injections g
    → All (IsInjection (length rules)) injected
injections_of g rules injected are listed =
    subst (λ n. All (IsInjection n) injected) (sym (made_count g rules are))
    (subst (All (IsInjection (rule_count g))) (sym listed) (injections_fit g))

-- so few texts and keys that they can be counted together
pub few_of : (g : Grammar) (count keys : ℕ) → rule_count g ≤ 65_536 → count ≡ unread_texts g
    → keys ≡ unread_keys g.injections → count + keys ≤ 327_680
few_of g count keys few counted unread =
    let small = small_whole g few in
    omega (arith, few, small.unread, counted, unread, few_unread_keys g.injections)
