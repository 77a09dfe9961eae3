use Rattle.std.proofs.Common.{◌+◌, ap, ◌∙◌, sym, subst, drop, map}
use Rattle.grammar_defs.specs.FileRules.{nothing, placed}
use Rattle.grammar_json.specs.FileViews.{rule_of}
use Rattle.grammar_json.specs.NamedViews.{named_view}
use Rattle.rule_graph.specs.Walks.{after, after_named, IsSmall}
use Rattle.rule_graph.proofs.WalkLemmas.{named_next, small_before_named}
use Rattle.rule_graph.proofs.walk.Walk.push_named.Goals as goal

pub push_rule-requires : goal.push_rule-requires
push_rule-requires c =
    let g = c.args.targets.now in
    let items = c.as_slice-named-items.result.now in
    let rest = map named_view (drop (c.loop-named.named-index + 1) items) in
    small_before_named g (after g c.loop-named.self (placed (rule_of c.named-item.result.rule) nothing)) rest
    (subst IsSmall
    (ap (λ xs. after_named g c.args.self.now (map named_view xs)) (sym c.as_slice-named-items.ensures)
    ∙ sym c.loop-named.invariant
    ∙ named_next g c.loop-named.self items c.loop-named.named-index c.named-item.result c.loop-named-test.true
    ∙ ap (λ x. after_named g (after g c.loop-named.self (placed (rule_of x.rule) nothing)) rest) (sym c.named-item.is))
    c.requires)

pub loop-named-preserved : goal.loop-named-preserved
loop-named-preserved c =
    let g = c.args.targets.now in
    let items = c.as_slice-named-items.result.now in
    let rest = map named_view (drop (c.loop-named.named-index + 1) items) in
    ap (λ v. after_named g v rest) c.in_ok-push_rule.ensures
    ∙ ap (λ x. after_named g (after g c.loop-named.self (placed (rule_of x.rule) nothing)) rest) c.named-item.is
    ∙ sym (named_next g c.loop-named.self items c.loop-named.named-index c.named-item.result c.loop-named-test.true)
    ∙ c.loop-named.invariant
