use Rattle.std.proofs.Common.{◌+◌, ◌*◌}
use Rattle.bracket_ast.specs.Shapes.{or_nothing, nows}
use Rattle.bracket_ast.specs.Weight.{weight}
use Rattle.tree_queries.proofs.places.+innermost.Given as goal

abbrev pub decreases-innermost : goal.decreases-innermost
decreases-innermost l = 2 * weight l.node.now

abbrev pub decreases-innermost_inside : goal.decreases-innermost_inside
decreases-innermost_inside l = 2 * weight (or_nothing (nows l.pair.now.inside)) + 1
