use Rattle.answer_laws.proofs.AnswerLemmas.{around_is_the_narrowest}
use Rattle.answer_laws.proofs.around_is_the_narrowest.Goals as goal

pub returns : goal.returns
returns c = around_is_the_narrowest
