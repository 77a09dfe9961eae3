use Rattle.tree_defs.proofs.laws.standing_trees_have_the_rows.Goals as goal
use Rattle.tree_defs.proofs.FullRows.{row_law}

pub returns : goal.returns
returns c = row_law
