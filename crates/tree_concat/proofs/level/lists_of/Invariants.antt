use Rattle.std.proofs.Common.{◌≡◌, ◌+◌, ◌*◌, ◌≤◌, ◌++◌, length}
use Rattle.tree_defs.specs.Shape.{all_leaves}
use Rattle.tree_concat.specs.Joined.{AllHigh, first_height}
use Rattle.tree_concat.proofs.level.lists_of.Given as goal

abbrev pub invariant-loop-rest : goal.invariant-loop-rest
invariant-loop-rest l = record {
  leaves : all_leaves l.lists.items ++ all_leaves l.rest ≡ all_leaves l.fn.nodes;
  made : AllHigh (first_height l.fn.nodes + 1) l.lists.items;
  high : AllHigh (first_height l.fn.nodes) l.rest;
  some : 2 ≤ length l.rest;
  count : 2 * length l.lists.items + length l.rest ≡ length l.fn.nodes;
}

abbrev pub decreases-loop-rest : goal.decreases-loop-rest
decreases-loop-rest l = length l.rest
