use Rattle.tree_defs.proofs.laws.trees_have_the_rows_of_the_pairing.Goals as goal
use Rattle.tree_defs.proofs.Walk.{walks}

pub returns : goal.returns
returns c = λ limit items at ms s. walks limit items at ms s
