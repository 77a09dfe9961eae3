use Rattle.reuse_parser.proofs.Found.{found_adds}
use Rattle.reuse_parser.proofs.laws.old_nodes_add.Goals as goal

pub returns : goal.returns
returns c = found_adds
