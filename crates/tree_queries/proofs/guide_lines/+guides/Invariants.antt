use Rattle.std.proofs.Common.{◌+◌, ◌*◌}
use Rattle.bracket_ast.specs.Shapes.{or_nothing, nows}
use Rattle.bracket_ast.specs.Weight.{weight}
use Rattle.tree_queries.proofs.guide_lines.+guides.Given as goal

abbrev pub decreases-add_guides : goal.decreases-add_guides
decreases-add_guides l = 2 * weight l.node.now

abbrev pub decreases-add_guides_inside : goal.decreases-add_guides_inside
decreases-add_guides_inside l = 2 * weight (or_nothing (nows l.pair.now.inside)) + 1
