use Rattle.tree_defs.specs.Shape.{height}
use Rattle.tree_concat.proofs.grow.+append.Given as goal

abbrev pub decreases-append : goal.decreases-append
decreases-append l = height l.a.now
