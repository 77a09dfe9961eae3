use Rattle.std.proofs.Common.{◌<◌, ◌≤◌, ◌-◌, length, take}
use Rattle.tree_concat.specs.Joined.{AllHigh, first_height}
use Rattle.tree_concat.proofs.joining.first_run.Given as goal

abbrev pub invariant-loop-n : goal.invariant-loop-n
invariant-loop-n l = record {
  some : 0 < l.n;
  within : l.n ≤ length l.nodes;
  high : AllHigh (first_height l.nodes)
      (take l.n l.nodes);
}

abbrev pub decreases-loop-n : goal.decreases-loop-n
decreases-loop-n l = length l.nodes - l.n
