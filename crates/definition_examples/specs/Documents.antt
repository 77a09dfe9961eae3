-- Worked examples of the tokens, marks and rows of a text, each named by what it shows.
use Rattle.std.specs.Prelude.{◌≡◌, ℕ, ◌+◌, List, [], ◌∷◌, ◌++◌, map, codes, false, refl}
use Rattle.pairing_defs.specs.OnLiterals.{words_on_literals}
use Rattle.pairing_defs.specs.declared.Mark.{Mark}
use Rattle.pairing_defs.specs.Marks.{usual_texts}
use Rattle.scope_defs.specs.Frames.{Start}
use Rattle.line_defs.specs.Frames.{start_of}
use Rattle.line_defs.specs.Line.{LineResult}
use Rattle.answer_defs.specs.declared.answer.Question.TheVariants as question
use Rattle.answer_defs.specs.declared.answer.Answer.TheVariants as answer
use Rattle.answer_defs.specs.PairAnswerExamples.{guide}
use Rattle.document_defs.specs.TextRows.{Settings, tokens_of, marks_in_text, rows_of}
use Rattle.document_defs.specs.DocumentAnswers.{answer_of}

-- Lines of up to four columns, of which as many are a comment as lines stand before: their number is told from line to
-- line as that of the rule at the top.
abbrev counting : Start → List ℕ → LineResult
counting start line = record {
  tokens = record { from = 0; to = start.stack.top.rule; scopes = codes "comment" ∷ [] }
      ∷ record { from = start.stack.top.rule; to = 4; scopes = [] } ∷ [];
  end = record start { stack = record start.stack { top = record start.stack.top { rule = start.stack.top.rule + 1 } } };
  stopped = false;
}

abbrev settings : Settings
settings = record {
  start = start_of (codes "s");
  line = counting;
  texts = usual_texts;
  limits = record { nesting = 200; budget = 100; long = 20000; tab = 8 };
}

-- three lines of four openers each
abbrev openers : List ℕ
openers = codes "((((" ++ 10 ∷ codes "((((" ++ 10 ∷ codes "(((("

abbrev start_of_mark : Mark → ℕ × ℕ
start_of_mark m = (m.at.line, m.at.col)

-- where the tokens of each line end
pub tokens_go_on_from_line_to_line : map (map (λ token. token.to)) (tokens_of settings openers)
    ≡ (0 ∷ 4 ∷ []) ∷ (1 ∷ 4 ∷ []) ∷ (2 ∷ 4 ∷ []) ∷ []
tokens_go_on_from_line_to_line = refl

-- what is a comment has no mark: four, three and two are left
pub marks_go_on_from_line_to_line : map start_of_mark (marks_in_text settings openers)
    ≡ (0, 0) ∷ (0, 1) ∷ (0, 2) ∷ (0, 3) ∷ (1, 1) ∷ (1, 2) ∷ (1, 3) ∷ (2, 2) ∷ (2, 3) ∷ []
unfolding words_on_literals
marks_go_on_from_line_to_line = refl

-- and these are paired as one list
pub rows_go_on_from_line_to_line : map (λ r. r.level) (rows_of settings openers) ≡ 0 ∷ 1 ∷ 2 ∷ 3 ∷ 4 ∷ 5 ∷ 6 ∷ 7 ∷ 8 ∷ []
unfolding words_on_literals
rows_go_on_from_line_to_line = refl

pub a_document_answers_with_the_tokens_of_its_text : answer_of settings openers (question.Tokens 2)
    ≡ answer.Tokens (record { from = 0; to = 2; scopes = codes "comment" ∷ []; kind = 1 } ∷ record { from = 2; to = 4; scopes = []; kind = 0 } ∷ [])
unfolding words_on_literals
a_document_answers_with_the_tokens_of_its_text = refl

-- a tab before each bracket, of 8 columns; in the second line the tab is a comment
pub guides_go_by_the_width_of_tabs : answer_of settings (9 ∷ 40 ∷ 10 ∷ 9 ∷ 41 ∷ []) (question.Guides 0 1) ≡ answer.Guides (guide 1 8 0 ∷ [])
unfolding words_on_literals
guides_go_by_the_width_of_tabs = refl
