use Rattle.std.proofs.Common.{◌+◌, ◌*◌}
use Rattle.bracket_ast.specs.Shapes.{or_nothing, nows}
use Rattle.bracket_ast.specs.Weight.{weight}
use Rattle.tree_queries.proofs.jumps.+next.Given as goal

abbrev pub decreases-next : goal.decreases-next
decreases-next l = 2 * weight l.node.now

abbrev pub decreases-next_inside : goal.decreases-next_inside
decreases-next_inside l = 2 * weight (or_nothing (nows l.pair.now.inside)) + 1
