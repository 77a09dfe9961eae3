use Rattle.std.proofs.Common.{◌≡◌, ◌++◌, length}
use Rattle.tree_defs.specs.Shape.{all_leaves}
use Rattle.tree_concat.specs.Joined.{some_leaves}
use Rattle.tree_concat.proofs.joining.join.Given as goal

abbrev pub invariant-loop-rest : goal.invariant-loop-rest
invariant-loop-rest l = some_leaves l.root ++ all_leaves l.rest ≡ all_leaves l.fn.items

abbrev pub decreases-loop-rest : goal.decreases-loop-rest
decreases-loop-rest l = length l.rest
