-- Answers are filters of the rows of a whole text, or parts of the text or of its tokens. Rows, text and tokens are given
-- here: what makes rows and tokens of a text stands in `document_defs`. The questions, their answers and their refusals are this project's own.
use Rattle.std.specs.Prelude.{ℕ, ◌-◌, List, length, map, filter, Bool, ◌&&◌, nat_lt, nat_le, if◌then◌else◌, Option}
use Rattle.std.specs.Prelude.{Some, None, [], slice_index_or}
use Rattle.std.specs.Option.{option_or}
use Rattle.text_pos.specs.declared.length.Pos.{Pos}
use Rattle.text_defs.specs.Text.{line_of, lines_of, line_count}
use Rattle.scope_defs.specs.Frames.{Token}
use Rattle.pairing_defs.specs.declared.Row.{Row}
use Rattle.answer_defs.specs.PairAnswers.{match_in, around_in, jump_in, level_in, pairs_in, guides_in}
use Rattle.answer_defs.specs.TokenAnswers.{tokens_in}
use Rattle.answer_defs.specs.declared.answer.TheConstants.{MOST_LINES_OF_A_QUESTION}
use Rattle.answer_defs.specs.declared.answer.BracketRow.{BracketRow}
use Rattle.answer_defs.specs.declared.answer.Question.{Question}
use Rattle.answer_defs.specs.declared.answer.Question.TheVariants as question
use Rattle.answer_defs.specs.declared.answer.Answer.{Answer}
use Rattle.answer_defs.specs.declared.answer.Answer.TheVariants as answer
use Rattle.answer_defs.specs.declared.refusal.QuestionRefusal.{QuestionRefusal}
use Rattle.answer_defs.specs.declared.refusal.QuestionRefusal.TheVariants as refusal

-- whether a row's mark stands in lines a to b
abbrev pub is_in_lines : ℕ → ℕ → Row → Bool
is_in_lines a b r = nat_le a r.mark.at.line && nat_le r.mark.at.line b

abbrev pub bracket_row : Row → BracketRow
bracket_row r = record {
  at = record { line = r.mark.at.line; from = r.mark.at.col; to = r.mark.to };
  level = r.level;
  own = r.own;
  colour = r.colour;
}

-- the brackets of lines a to b
abbrev pub brackets_in : ℕ → ℕ → List Row → List BracketRow
brackets_in a b rows = map bracket_row (filter (is_in_lines a b) rows)

-- whether lines a to b are a range of a text of so many lines that may be asked for
abbrev pub is_range : ℕ → ℕ → ℕ → Bool
is_range lines a b = nat_le a b && (nat_lt b lines && nat_lt (b - a) MOST_LINES_OF_A_QUESTION)

abbrev pub unless : Bool → QuestionRefusal → Option QuestionRefusal
unless holds refusal = if holds then None else Some refusal

-- why a range of lines is refused, a line, and a place: its line first
abbrev pub range_refusal : List ℕ → ℕ → ℕ → Option QuestionRefusal
range_refusal text a b = unless (is_range (line_count text) a b) (refusal.Line (line_count text))

abbrev pub line_refusal : List ℕ → ℕ → Option QuestionRefusal
line_refusal text n = unless (nat_lt n (line_count text)) (refusal.Line (line_count text))

abbrev pub place_refusal : List ℕ → Pos → Option QuestionRefusal
place_refusal text at = option_or (line_refusal text at.line)
    (unless (nat_le at.col (length (line_of text at.line))) (refusal.Place (length (line_of text at.line))))

-- why a question about a text is refused, and None where it is answered
abbrev pub question_refusal : List ℕ → Question → Option QuestionRefusal
question_refusal text (question.Brackets a b) = range_refusal text a b
question_refusal text (question.Pairs a b) = range_refusal text a b
question_refusal text (question.Guides a b) = range_refusal text a b
question_refusal text (question.Tokens n) = line_refusal text n
question_refusal text (question.Line n) = line_refusal text n
question_refusal text (question.Match at) = place_refusal text at
question_refusal text (question.Around at) = place_refusal text at
question_refusal text (question.Jump at) = place_refusal text at
question_refusal text (question.Level at) = place_refusal text at

-- the answer to a question, of these rows, the tokens of the lines and the text, with tabs of so many columns
abbrev pub answer_among : ℕ → List Row → List (List Token) → List ℕ → Question → Answer
answer_among tab rows tokens text (question.Brackets a b) = answer.Brackets (brackets_in a b rows)
answer_among tab rows tokens text (question.Pairs a b) = answer.Pairs (pairs_in rows a b)
answer_among tab rows tokens text (question.Guides a b) = answer.Guides (guides_in tab (lines_of text) rows a b)
answer_among tab rows tokens text (question.Tokens n) = answer.Tokens (tokens_in (slice_index_or tokens n []))
answer_among tab rows tokens text (question.Line n) = answer.Line (line_of text n)
answer_among tab rows tokens text (question.Match at) = answer.Match (match_in rows at)
answer_among tab rows tokens text (question.Around at) = answer.Around (around_in rows at)
answer_among tab rows tokens text (question.Jump at) = answer.Jump (jump_in rows at)
answer_among tab rows tokens text (question.Level at) = answer.Level (level_in rows at)
