use Rattle.std.proofs.Common.{ap, ◌∙◌, sym, subst}
use Rattle.std.specs.Prelude.{Some}
use Rattle.grammar_json.specs.GrammarViews.{grammar_view}
use Rattle.rule_graph.specs.Walks.{after, after_named, after_group, IsSmall}
use Rattle.rule_graph.proofs.WalkLemmas.{start, whole, small_w2, small_w3, small_w4}
use Rattle.rule_graph.proofs.walk.listed.Goals as goal

pub push_entries-requires : goal.push_entries-requires
push_entries-requires c =
    let g = grammar_view c.args.grammar.now in
    let name = c.in_ok-name.name in
    let w1 = c.push_group.new.self in
    let e1 = c.in_ok-push_group.ensures.group
    ∙ ap (λ t. after_group t c.new-walk.result (Some name) g.patterns) c.in_ok-targets.ensures
    ∙ ap (λ w. after_group g w (Some name) g.patterns) c.new-walk.ensures
    ∙ ap (λ n. after_group g start (Some n) g.patterns) (c.in_ok-name.ensures ∙ c.text.ensures) in
    subst (λ t. IsSmall (after t w1 g.patterns)) (sym c.in_ok-targets.ensures) (small_w2 g w1 e1 c.requires)

pub push_named-requires : goal.push_named-requires
push_named-requires c =
    let g = grammar_view c.args.grammar.now in
    let name = c.in_ok-name.name in
    let w1 = c.push_group.new.self in
    let w2 = c.push_entries.new.self in
    let e1 = c.in_ok-push_group.ensures.group
    ∙ ap (λ t. after_group t c.new-walk.result (Some name) g.patterns) c.in_ok-targets.ensures
    ∙ ap (λ w. after_group g w (Some name) g.patterns) c.new-walk.ensures
    ∙ ap (λ n. after_group g start (Some n) g.patterns) (c.in_ok-name.ensures ∙ c.text.ensures) in
    let e2 = c.in_ok-push_entries.ensures ∙ ap (λ t. after t w1 g.patterns) c.in_ok-targets.ensures in
    subst (λ t. IsSmall (after_named t w2 g.repository)) (sym c.in_ok-targets.ensures)
    (small_w3 g w1 w2 e1 e2 c.requires)

pub push_named-requires-2 : goal.push_named-requires-2
push_named-requires-2 c =
    let g = grammar_view c.args.grammar.now in
    let name = c.in_ok-name.name in
    let w1 = c.push_group.new.self in
    let w2 = c.push_entries.new.self in
    let w3 = c.push_named.new.self in
    let e1 = c.in_ok-push_group.ensures.group
    ∙ ap (λ t. after_group t c.new-walk.result (Some name) g.patterns) c.in_ok-targets.ensures
    ∙ ap (λ w. after_group g w (Some name) g.patterns) c.new-walk.ensures
    ∙ ap (λ n. after_group g start (Some n) g.patterns) (c.in_ok-name.ensures ∙ c.text.ensures) in
    let e2 = c.in_ok-push_entries.ensures ∙ ap (λ t. after t w1 g.patterns) c.in_ok-targets.ensures in
    let e3 = c.in_ok-push_named.ensures ∙ ap (λ t. after_named t w2 g.repository) c.in_ok-targets.ensures in
    subst (λ t. IsSmall (after_named t w3 g.injections)) (sym c.in_ok-targets.ensures)
    (small_w4 g w1 w2 w3 e1 e2 e3 c.requires)

pub returns : goal.returns
returns c =
    let g = grammar_view c.args.grammar.now in
    let name = c.in_ok-name.name in
    let w1 = c.push_group.new.self in
    let w2 = c.push_entries.new.self in
    let w3 = c.push_named.new.self in
    let w4 = c.push_named-2.new.self in
    let e1 = c.in_ok-push_group.ensures.group
    ∙ ap (λ t. after_group t c.new-walk.result (Some name) g.patterns) c.in_ok-targets.ensures
    ∙ ap (λ w. after_group g w (Some name) g.patterns) c.new-walk.ensures
    ∙ ap (λ n. after_group g start (Some n) g.patterns) (c.in_ok-name.ensures ∙ c.text.ensures) in
    let e2 = c.in_ok-push_entries.ensures ∙ ap (λ t. after t w1 g.patterns) c.in_ok-targets.ensures in
    let e3 = c.in_ok-push_named.ensures ∙ ap (λ t. after_named t w2 g.repository) c.in_ok-targets.ensures in
    let e4 = c.in_ok-push_named-2.ensures ∙ ap (λ t. after_named t w3 g.injections) c.in_ok-targets.ensures in
    let all = c.walk-4.view_is ∙ whole g w1 w2 w3 w4 e1 e2 e3 e4 in
    (ap (λ w. w.rules) all, c.unread.ensures ∙ ap (λ w. w.unread) all)
