use Rattle.std.proofs.Common.{rules, ◌≡◌, ◌+◌, map, length, arith, ap, sym, ◌∙◌}
use Rattle.rule_table.specs.Views.{rule_of, listed_of}
use Rattle.grammar_json.specs.GrammarViews.{grammar_view}
use Rattle.graph_defs.specs.ListedRules.{listed_rules}
use Rattle.graph_defs.specs.ActiveLists.{active_rules}
use Rattle.graph_defs.specs.GraphMeaning.{graph}
use Rattle.rule_graph.proofs.BuildLemmas.{count_of, within_of, made_of, lists_count, made_count, fits_of}
use Rattle.rule_graph.proofs.BuildLemmas.{reading_of, injections_of, few_of}
use Rattle.rule_graph.proofs.graph.Graph.build.Goals as goal

pub active_lists-requires-clause-within : goal.active_lists-requires-clause-within
active_lists-requires-clause-within c =
    within_of (grammar_view c.args.grammar.now) c.as_slice.result.now
    (ap (map rule_of) c.as_slice.ensures.value ∙ c.in_ok-rules.ensures.0)

pub active_lists-requires-clause-few : goal.active_lists-requires-clause-few
active_lists-requires-clause-few c =
    let n = count_of (grammar_view c.args.grammar.now) c.as_slice.result.now
    (ap (map rule_of) c.as_slice.ensures.value ∙ c.in_ok-rules.ensures.0) in omega (arith, n, c.requires)

pub set_active-requires : goal.set_active-requires
set_active-requires c =
    let n = lists_count c.as_slice.result.now c.in_ok-lists.lists.items c.in_ok-lists.ensures.0 in
    let m = ap length c.as_slice.ensures.value in omega (arith, n, m)

pub of-requires-clause-few : goal.of-requires-clause-few
of-requires-clause-few c =
    let g = grammar_view c.args.grammar.now in
    let are : map rule_of c.set_active.new.rules.items ≡ active_rules (listed_rules g) =
    made_of g c.as_slice.result.now c.set_active.new.rules.items c.in_ok-lists.lists.items
    (ap (map rule_of) c.as_slice.ensures.value ∙ c.in_ok-rules.ensures.0) c.in_ok-lists.ensures.0 (search rules) in
    let n = made_count g c.set_active.new.rules.items are in
    omega (arith, n, c.requires)

pub of-requires-clause-fit : goal.of-requires-clause-fit
of-requires-clause-fit c =
    let g = grammar_view c.args.grammar.now in
    let are : map rule_of c.set_active.new.rules.items ≡ active_rules (listed_rules g) =
    made_of g c.as_slice.result.now c.set_active.new.rules.items c.in_ok-lists.lists.items
    (ap (map rule_of) c.as_slice.ensures.value ∙ c.in_ok-rules.ensures.0) c.in_ok-lists.ensures.0 (search rules) in
    fits_of g c.set_active.new.rules.items c.most_groups-groups.result are (search rules)

pub of-requires-clause-injections : goal.of-requires-clause-injections
of-requires-clause-injections c =
    let g = grammar_view c.args.grammar.now in
    let are : map rule_of c.set_active.new.rules.items ≡ active_rules (listed_rules g) =
    made_of g c.as_slice.result.now c.set_active.new.rules.items c.in_ok-lists.lists.items
    (ap (map rule_of) c.as_slice.ensures.value ∙ c.in_ok-rules.ensures.0) c.in_ok-lists.ensures.0 (search rules) in
    injections_of g c.set_active.new.rules.items (map listed_of c.in_ok-injections.injections) are
    c.in_ok-injections.ensures.0

pub returns : goal.returns
returns c =
    let g = grammar_view c.args.grammar.now in
    let first : map rule_of c.as_slice.result.now ≡ listed_rules g =
    ap (map rule_of) c.as_slice.ensures.value ∙ c.in_ok-rules.ensures.0 in
    let are : map rule_of c.set_active.new.rules.items ≡ active_rules (listed_rules g) =
    made_of g c.as_slice.result.now c.set_active.new.rules.items c.in_ok-lists.lists.items
    first c.in_ok-lists.ensures.0 (search rules) in
    reading_of g (map rule_of c.as_slice.result.now) (map rule_of c.set_active.new.rules.items)
    (map listed_of c.in_ok-injections.injections) c.most_groups-groups.result c.in_ok-rules.unread
    c.in_ok-injections.unread_keys first c.in_ok-lists.ensures.1 are c.in_ok-injections.ensures.0 (search rules)
    c.in_ok-rules.ensures.1 c.in_ok-injections.ensures.1
    ∙ ap (λ t. graph (record {
      rules = t.rules;
      injections = t.injections;
      groups = t.groups;
      unread = c.in_ok-rules.unread + c.in_ok-injections.unread_keys;
    }))
    (sym c.of.ensures)

pub overflow_add-result : goal.overflow_add-result
overflow_add-result c =
    omega (
      arith,
      few_of (grammar_view c.args.grammar.now) c.in_ok-rules.unread c.in_ok-injections.unread_keys c.requires
          c.in_ok-rules.ensures.1 c.in_ok-injections.ensures.1,
    )
