-- The questions that are answered from the rows of a text: all but those for the tokens and the characters of a line.
use Rattle.std.specs.Prelude.{Bool, true, false}
use Rattle.answer_defs.specs.declared.answer.Question.{Question}
use Rattle.answer_defs.specs.declared.answer.Question.TheVariants.{Brackets, Pairs, Guides, Tokens, Line, Match, Around, Jump, Level}

abbrev pub asks_for_rows : Question → Bool
asks_for_rows (Brackets a b) = true
asks_for_rows (Pairs a b) = true
asks_for_rows (Guides a b) = true
asks_for_rows (Tokens n) = false
asks_for_rows (Line n) = false
asks_for_rows (Match at) = true
asks_for_rows (Around at) = true
asks_for_rows (Jump at) = true
asks_for_rows (Level at) = true
