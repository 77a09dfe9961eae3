use Rattle.answer_laws.proofs.LevelLemmas.{levels_count_the_pairs}
use Rattle.answer_laws.proofs.levels_count_the_pairs.Goals as goal

pub returns : goal.returns
returns c = levels_count_the_pairs
