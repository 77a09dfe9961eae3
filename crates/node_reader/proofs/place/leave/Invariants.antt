use Rattle.std.proofs.Common.{length}
use Rattle.node_reader.specs.Paths.{IsSamePlace}
use Rattle.node_reader.proofs.place.leave.Given as goal

abbrev pub invariant-loop-place : goal.invariant-loop-place
invariant-loop-place l = IsSamePlace l.fn.place l.place

abbrev pub decreases-loop-place : goal.decreases-loop-place
decreases-loop-place l = length l.place.path.items
