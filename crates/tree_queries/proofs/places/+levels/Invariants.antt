use Rattle.std.proofs.Common.{◌+◌, ◌*◌}
use Rattle.bracket_ast.specs.Shapes.{or_nothing, nows}
use Rattle.bracket_ast.specs.Weight.{weight}
use Rattle.tree_queries.proofs.places.+levels.Given as goal

abbrev pub decreases-levels : goal.decreases-levels
decreases-levels l = 2 * weight l.node.now

abbrev pub decreases-levels_inside : goal.decreases-levels_inside
decreases-levels_inside l = 2 * weight (or_nothing (nows l.pair.now.inside)) + 1
