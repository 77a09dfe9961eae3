use Rattle.std.proofs.Common.{length, refl}
use Rattle.onig_match.proofs.NodeSteps.{id_inside, ids_elsewhere}
use Rattle.onig_match.proofs.returns.alternative.Goals as goal

pub returns-in-Choice-clause-there : goal.returns-in-Choice-clause-there
returns-in-Choice-clause-there c =
    id_inside (length c.args.pattern.now.lists) c.args.pattern.now.groups c.list-nodes.result.now c.args.node.index
    c.args.way c.index-nodes-node.result c.in-Choice.ids c.id_at.result
    c.list-nodes.ensures.names c.if-node-nodes.false c.index-nodes-node.is c.in-Choice.is
    (rw c.as_slice.ensures at c.id_at.ensures.value)

pub returns-in_default : goal.returns-in_default
returns-in_default c =
    rw (ids_elsewhere c.args.pattern.now.lists c.list-nodes.result.now c.args.node c.index-nodes-node.result
    c.list-nodes.ensures.nodes c.if-node-nodes.false c.index-nodes-node.is c.in_default.not-Choice)
    (record { value = refl; there = tt; next = tt })
