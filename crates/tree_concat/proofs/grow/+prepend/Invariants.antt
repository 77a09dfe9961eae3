use Rattle.tree_defs.specs.Shape.{height}
use Rattle.tree_concat.proofs.grow.+prepend.Given as goal

abbrev pub decreases-prepend : goal.decreases-prepend
decreases-prepend l = height l.b.now
