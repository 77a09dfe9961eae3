use Rattle.scope_defs.specs.Frames.{depth}
use Rattle.scope_stack.proofs.Bare.{Alike}
use Rattle.scope_stack.proofs.stack.same_frames.Given as goal

abbrev pub invariant-loop-mine : goal.invariant-loop-mine
invariant-loop-mine l = Alike l.mine l.theirs l.stack l.other

abbrev pub decreases-loop-mine : goal.decreases-loop-mine
decreases-loop-mine l = depth l.mine
