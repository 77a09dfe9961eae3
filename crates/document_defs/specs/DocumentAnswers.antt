-- What a document answers: the rows and the tokens of its text, made anew from the first line, give the answer to a
-- question.
use Rattle.std.specs.Prelude.{ℕ, List}
use Rattle.answer_defs.specs.declared.answer.Question.{Question}
use Rattle.answer_defs.specs.declared.answer.Answer.{Answer}
use Rattle.answer_defs.specs.Answers.{answer_among}
use Rattle.document_defs.specs.TextRows.{Settings, rows_of, tokens_of}

abbrev pub answer_of : Settings → List ℕ → Question → Answer
answer_of settings text q =
    answer_among settings.limits.tab (rows_of settings text) (tokens_of settings text) text q
