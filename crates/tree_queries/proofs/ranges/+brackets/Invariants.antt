use Rattle.std.proofs.Common.{◌+◌, ◌*◌}
use Rattle.bracket_ast.specs.Shapes.{or_nothing, nows}
use Rattle.bracket_ast.specs.Weight.{weight}
use Rattle.tree_queries.proofs.ranges.+brackets.Given as goal

abbrev pub decreases-add_brackets : goal.decreases-add_brackets
decreases-add_brackets l = 3 * weight l.node.now

abbrev pub decreases-add_pair_brackets : goal.decreases-add_pair_brackets
decreases-add_pair_brackets l = 3 * weight (or_nothing (nows l.pair.now.inside)) + 2

abbrev pub decreases-add_brackets_inside : goal.decreases-add_brackets_inside
decreases-add_brackets_inside l = 3 * weight (or_nothing (nows l.pair.now.inside)) + 1
