use Rattle.std.proofs.Common.{length}
use Rattle.tree_concat.proofs.level.+raise.Given as goal

abbrev pub decreases-raise : goal.decreases-raise
decreases-raise l = length l.nodes.now
