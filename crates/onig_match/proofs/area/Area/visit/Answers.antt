use Rattle.std.proofs.Common.{◌≡◌, ◌∙◌, length, sym}
use Rattle.std.specs.Prelude.{Some, slice_get}
use Rattle.pattern_defs.specs.Patterns.{nodes_of}
use Rattle.onig_match.specs.declared.entries.Step.TheVariants.{Found}
use Rattle.pattern_defs.specs.Attempt.{Node, Close, Again}
use Rattle.onig_match.specs.Machine.{behind_node}
use Rattle.onig_match.proofs.NodeSteps.{AreNodes-get, node_there, node_todo, lead_end, visits_first}
use Rattle.onig_match.proofs.Steps.{visits_once}
use Rattle.onig_match.proofs.area.Area.visit.Goals as goal

pub visit_first-requires-clause-names : goal.visit_first-requires-clause-names
visit_first-requires-clause-names c =
    let there : slice_get (nodes_of c.args.on.now.pattern.now.lists c.in-AtNode.rest.list) c.in-AtNode.rest.index
    ≡ Some c.index-nodes-rest.result =
    node_there c.args.on.now.pattern.now.lists c.list-nodes.result.now c.in-AtNode.rest c.index-nodes-rest.result
    c.list-nodes.ensures.nodes (c.in-AtNode.ensures).sound.1 c.index-nodes-rest.is in
    AreNodes-get (length c.args.on.now.pattern.now.lists) c.args.on.now.pattern.now.groups c.list-nodes.result.now
    c.in-AtNode.rest.index c.index-nodes-rest.result c.list-nodes.ensures.names
    (rw c.list-nodes.ensures.nodes there)

pub returns-in-AtEnd : goal.returns-in-AtEnd
returns-in-AtEnd c =
    rw c.once.ensures
    (visits_once c.args.on.now c.args.self.now _ c.args.self.now (Found c.args.point.at)
    (lead_end c.args.on.now c.args.self.now c.args.point c.requires (sym (c.in-AtEnd.ensures).todo)))

pub returns-in-AtNode : goal.returns-in-AtNode
returns-in-AtNode c =
    let there : slice_get (nodes_of c.args.on.now.pattern.now.lists c.in-AtNode.rest.list) c.in-AtNode.rest.index
    ≡ Some c.index-nodes-rest.result =
    node_there c.args.on.now.pattern.now.lists c.list-nodes.result.now c.in-AtNode.rest c.index-nodes-rest.result
    c.list-nodes.ensures.nodes (c.in-AtNode.ensures).sound.1 c.index-nodes-rest.is in
    visits_first c.args.on.now c.args.self.now c.visit_first.new.self c.args.point (Node c.index-nodes-rest.result)
    (behind_node c.in-AtNode.rest) c.visit_first.result
    (sym (c.in-AtNode.ensures).todo ∙ node_todo c.args.on.now.pattern.now.lists c.args.self.now.cells.items
    c.in-AtNode.rest c.index-nodes-rest.result there)
    c.visit_first.ensures

pub returns-in-AtGroupEnd : goal.returns-in-AtGroupEnd
returns-in-AtGroupEnd c =
    visits_first c.args.on.now c.args.self.now c.visit_group_end.new.self c.args.point
    (Close c.in-AtGroupEnd.group c.in-AtGroupEnd.from) c.in-AtGroupEnd.rest _
    (sym (c.in-AtGroupEnd.ensures).todo)
    (rw c.once-in-AtGroupEnd.ensures (visits_once c.args.on.now c.args.self.now _ c.visit_group_end.new.self
    c.visit_group_end.result c.visit_group_end.ensures))

pub returns-in-AtIteration : goal.returns-in-AtIteration
returns-in-AtIteration c =
    visits_first c.args.on.now c.args.self.now c.visit_again.new.self c.args.point
    (Again c.in-AtIteration.repeat.body c.in-AtIteration.repeat.least c.in-AtIteration.repeat.most
    c.in-AtIteration.repeat.greedy c.in-AtIteration.count c.in-AtIteration.begun)
    c.in-AtIteration.rest c.visit_again.result (sym (c.in-AtIteration.ensures).todo) c.visit_again.ensures
