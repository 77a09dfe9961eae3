use Rattle.tree_defs.proofs.laws.cut_texts_hold_the_openers_at_the_limit.Goals as goal
use Rattle.tree_defs.proofs.CutTexts.{cut_law}

pub returns : goal.returns
returns c = cut_law
