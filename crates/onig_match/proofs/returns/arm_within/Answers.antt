use Rattle.std.proofs.Common.{length, refl}
use Rattle.std.proofs.Math.Seq.{drop-nil}
use Rattle.pattern_defs.specs.declared.nodes.Arm.{Arm}
use Rattle.onig_match.proofs.NodeSteps.{arm_inside, arms_elsewhere}
use Rattle.onig_match.proofs.returns.arm_within.Goals as goal

pub returns-in-Behind-clause-there : goal.returns-in-Behind-clause-there
returns-in-Behind-clause-there c =
    arm_inside (length c.args.pattern.now.lists) c.args.pattern.now.groups c.list-nodes.result.now c.args.node.index
    c.args.arm c.args.at c.index-nodes-node.result c.in-Behind.arms c.in-Behind.wanted c.first_within.result
    c.list-nodes.ensures.names c.if-node-nodes.false c.index-nodes-node.is c.in-Behind.is
    (rw c.as_slice.ensures at c.first_within.ensures.next)

pub returns-in_default : goal.returns-in_default
returns-in_default c =
    rw (
      arms_elsewhere c.args.pattern.now.lists c.list-nodes.result.now c.args.node c.index-nodes-node.result
          c.list-nodes.ensures.nodes c.if-node-nodes.false c.index-nodes-node.is c.in_default.not-Behind,
      drop-nil
          {A = Arm} c.args.arm,
    )
    (record { next = refl; small = tt; there = tt })
