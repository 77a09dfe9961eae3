use Rattle.reuse_parser.proofs.Adding.{text_adds, cut_adds, lone_adds, pair_adds}
use Rattle.reuse_parser.proofs.laws.new_nodes_add.Goals as goal

pub returns-clause-texts : goal.returns-clause-texts
returns-clause-texts c = text_adds

pub returns-clause-cuts : goal.returns-clause-cuts
returns-clause-cuts c = cut_adds

pub returns-clause-closers : goal.returns-clause-closers
returns-clause-closers c = lone_adds

pub returns-clause-pairs : goal.returns-clause-pairs
returns-clause-pairs c = pair_adds
