use Rattle.std.proofs.Common.{◌+◌, ◌*◌}
use Rattle.bracket_ast.specs.Shapes.{or_nothing, nows}
use Rattle.bracket_ast.specs.Weight.{weight}
use Rattle.tree_queries.proofs.ranges.+pairs.Given as goal

abbrev pub decreases-add_pairs : goal.decreases-add_pairs
decreases-add_pairs l = 3 * weight l.node.now

abbrev pub decreases-add_pairs_inside : goal.decreases-add_pairs_inside
decreases-add_pairs_inside l = 3 * weight (or_nothing (nows l.pair.now.inside)) + 1
