use Rattle.tree_defs.proofs.laws.nodes_can_be_reused.Goals as goal
use Rattle.tree_defs.proofs.Law.{reuse_law}

pub returns : goal.returns
returns c = reuse_law
