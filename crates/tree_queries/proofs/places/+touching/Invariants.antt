use Rattle.std.proofs.Common.{◌+◌, ◌*◌}
use Rattle.bracket_ast.specs.Shapes.{or_nothing, nows}
use Rattle.bracket_ast.specs.Weight.{weight}
use Rattle.tree_queries.proofs.places.+touching.Given as goal

abbrev pub decreases-touching : goal.decreases-touching
decreases-touching l = 2 * weight l.node.now

abbrev pub decreases-touching_inside : goal.decreases-touching_inside
decreases-touching_inside l = 2 * weight (or_nothing (nows l.pair.now.inside)) + 1
