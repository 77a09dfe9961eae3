use Rattle.std.proofs.Common.{arith}
use Rattle.bracket_ast.proofs.node.one_higher.Goals as goal
use Rattle.bracket_ast.proofs.Sound.{low}

pub overflow_add-result : goal.overflow_add-result
overflow_add-result c = let high = low c.args.a.now c.height.ensures.sound in omega (arith, high)
