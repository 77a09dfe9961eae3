use Rattle.std.proofs.Common.{refl}
use Rattle.onig_match.specs.Machine.{subject}
use Rattle.onig_match.proofs.EarlyMisses.{misses_one, misses_group}
use Rattle.onig_match.proofs.early.early_miss.Goals as goal

pub returns-then-begins_else-clause-early : goal.returns-then-begins_else-clause-early
returns-then-begins_else-clause-early c =
    misses_one (subject c.args.on.now) c.args.list c.args.at
    (rw c.list-nodes.ensures.nodes at (c.if-begins_else.ensures refl))

pub returns-then-begins_else-2-clause-early : goal.returns-then-begins_else-2-clause-early
returns-then-begins_else-2-clause-early c =
    misses_group (subject c.args.on.now) c.args.list c.args.at c.in_ok-body.ensures.number c.in_ok-body.body
    c.in_ok-body.ensures.more (rw c.list-nodes.ensures.nodes at c.in_ok-body.ensures.is)
    (rw c.list.ensures.nodes at (c.if-begins_else-2.ensures refl))
