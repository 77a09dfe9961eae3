use Rattle.answer_laws.proofs.AnswerLemmas.{jumps_go_to_brackets}
use Rattle.answer_laws.proofs.jumps_go_to_brackets.Goals as goal

pub returns : goal.returns
returns c = jumps_go_to_brackets
