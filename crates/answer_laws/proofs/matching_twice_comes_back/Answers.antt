use Rattle.answer_laws.proofs.AnswerLemmas.{matching_twice_comes_back}
use Rattle.answer_laws.proofs.matching_twice_comes_back.Goals as goal

pub returns : goal.returns
returns c = matching_twice_comes_back
