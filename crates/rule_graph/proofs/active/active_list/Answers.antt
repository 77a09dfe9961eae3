use Rattle.std.proofs.Common.{rules, set, ◌<◌, ◌+◌, length, map, arith, subst, sym}
use Rattle.std.proofs.lemmas.List.{nil_from_length}
use Rattle.rule_table.specs.Views.{rule_of}
use Rattle.graph_defs.specs.ActiveLists.{active_list}
use Rattle.rule_graph.specs.Listing.{numbers}
use Rattle.rule_graph.proofs.ActiveLemmas.{IsOpening, opening_start, opening_next, opening_rule, opening_again}
use Rattle.rule_graph.proofs.ActiveLemmas.{opening_group, opening_end, replaced_less, kind_group, kind_no_group}
use Rattle.rule_graph.proofs.ActiveLemmas.{to_replace}
use Rattle.rule_graph.proofs.active.active_list.Goals as goal

pub loop-id-init : goal.loop-id-init
loop-id-init c =
    subst (λ active. IsOpening c.args.rules.now c.args.stamps.now c.args.stamp active c.push_reversed.new.todo.items
    (active_list (map rule_of c.args.rules.now) (numbers c.args.list.now))) (sym c.new-active.ensures)
    (opening_start c.args.rules.now c.args.stamps.now c.args.stamp c.args.list.now c.push_reversed.new.todo.items
    c.requires.list c.requires.stamps c.requires.stamp c.requires.fresh (search rules))

pub bounds-rules-at : goal.bounds-rules-at
bounds-rules-at c =
    opening_next c.args.rules.now c.loop-id.stamps c.args.stamp c.loop-id.active c.pop.new.self.items
    (active_list (map rule_of c.args.rules.now) (numbers c.args.list.now)) c.in-Some.id
    (subst (λ todo. IsOpening c.args.rules.now c.loop-id.stamps c.args.stamp c.loop-id.active todo
    (active_list (map rule_of c.args.rules.now) (numbers c.args.list.now))) c.in-Some.ensures.items
    c.loop-id.invariant)

pub loop-id-preserved-in-Continue-branch-2 : goal.loop-id-preserved-in-Continue-branch-2
loop-id-preserved-in-Continue-branch-2 c =
    let whole = active_list (map rule_of c.args.rules.now) (numbers c.args.list.now) in
    subst (λ active. IsOpening c.args.rules.now c.loop-id.stamps c.args.stamp active c.pop.new.self.items whole)
    (sym c.in_ok-push.ensures.ok)
    (opening_rule c.args.rules.now c.loop-id.stamps c.args.stamp c.loop-id.active c.pop.new.self.items whole
    c.in-Some.id c.index-rules-at.result c.index-rules-at.is
    (kind_no_group c.index-rules-at.result.kind c.if-ne.ensures)
    (subst (λ todo. IsOpening c.args.rules.now c.loop-id.stamps c.args.stamp c.loop-id.active todo whole)
    c.in-Some.ensures.items c.loop-id.invariant))

pub bounds-stamps-at : goal.bounds-stamps-at
bounds-stamps-at c =
    let whole = active_list (map rule_of c.args.rules.now) (numbers c.args.list.now) in
    omega (
      arith,
      c.loop-id.invariant.len,
      opening_next c.args.rules.now c.loop-id.stamps c.args.stamp c.loop-id.active c.pop.new.self.items whole
          c.in-Some.id
          (subst (λ todo. IsOpening c.args.rules.now c.loop-id.stamps c.args.stamp c.loop-id.active todo whole)
          c.in-Some.ensures.items c.loop-id.invariant),
    )

pub bounds-stamps-at-then-stamps-at : goal.bounds-stamps-at-then-stamps-at
bounds-stamps-at-then-stamps-at c =
    let whole = active_list (map rule_of c.args.rules.now) (numbers c.args.list.now) in
    omega (
      arith,
      c.loop-id.invariant.len,
      opening_next c.args.rules.now c.loop-id.stamps c.args.stamp c.loop-id.active c.pop.new.self.items whole
          c.in-Some.id
          (subst (λ todo. IsOpening c.args.rules.now c.loop-id.stamps c.args.stamp c.loop-id.active todo whole)
          c.in-Some.ensures.items c.loop-id.invariant),
    )

pub loop-id-smaller-in-Continue-branch-3 : goal.loop-id-smaller-in-Continue-branch-3
loop-id-smaller-in-Continue-branch-3 c =
    let whole = active_list (map rule_of c.args.rules.now) (numbers c.args.list.now) in
    let is = subst (λ todo. IsOpening c.args.rules.now c.loop-id.stamps c.args.stamp c.loop-id.active todo whole)
    c.in-Some.ensures.items c.loop-id.invariant in
    subst (λ todo. length c.push_reversed-then-stamps-at.new.todo.items + to_replace c.args.rules.now
    (set c.loop-id.stamps c.in-Some.id.0 c.args.stamp) c.args.stamp
    < length todo + to_replace c.args.rules.now c.loop-id.stamps c.args.stamp) (sym c.in-Some.ensures.items)
    (replaced_less c.args.rules.now c.loop-id.stamps c.args.stamp 0 c.pop.new.self.items
    c.push_reversed-then-stamps-at.new.todo.items c.in-Some.id c.index-rules-at.result c.index-rules-at.is
    (opening_next c.args.rules.now c.loop-id.stamps c.args.stamp c.loop-id.active c.pop.new.self.items whole
    c.in-Some.id is) c.loop-id.invariant.len c.if-stamps-at.true (search rules))

pub loop-id-preserved-in-Continue-branch-3 : goal.loop-id-preserved-in-Continue-branch-3
loop-id-preserved-in-Continue-branch-3 c =
    let whole = active_list (map rule_of c.args.rules.now) (numbers c.args.list.now) in
    opening_group c.args.rules.now c.loop-id.stamps c.args.stamp 0 c.loop-id.active c.pop.new.self.items
    c.push_reversed-then-stamps-at.new.todo.items whole c.in-Some.id c.index-rules-at.result c.index-rules-at.is
    (kind_group c.index-rules-at.result.kind c.if-ne.ensures) c.if-stamps-at.true (search rules) c.requires.rules
    (subst (λ todo. IsOpening c.args.rules.now c.loop-id.stamps c.args.stamp c.loop-id.active todo whole)
    c.in-Some.ensures.items c.loop-id.invariant)

pub loop-id-preserved : goal.loop-id-preserved
loop-id-preserved c =
    let whole = active_list (map rule_of c.args.rules.now) (numbers c.args.list.now) in
    opening_again c.args.rules.now c.loop-id.stamps c.args.stamp 0 c.loop-id.active c.pop.new.self.items whole
    c.in-Some.id c.index-rules-at.result c.index-rules-at.is
    (kind_group c.index-rules-at.result.kind c.if-ne.ensures) c.if-stamps-at.false
    (subst (λ todo. IsOpening c.args.rules.now c.loop-id.stamps c.args.stamp c.loop-id.active todo whole)
    c.in-Some.ensures.items c.loop-id.invariant)

pub returns-clause-list : goal.returns-clause-list
returns-clause-list c =
    let whole = active_list (map rule_of c.args.rules.now) (numbers c.args.list.now) in
    opening_end c.args.rules.now c.loop-id.stamps c.args.stamp c.loop-id.active whole
    (subst (λ todo. IsOpening c.args.rules.now c.loop-id.stamps c.args.stamp c.loop-id.active todo whole)
    (nil_from_length c.loop-id.todo.items (omega (arith, c.in_default.ensures.cases.0, c.loop-id.todo.ok)))
    c.loop-id.invariant)

pub returns-clause-stamps : goal.returns-clause-stamps
returns-clause-stamps c = c.loop-id.invariant.low
