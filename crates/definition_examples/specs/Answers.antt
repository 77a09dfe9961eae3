-- Further worked examples of questions and answers, each named by what it shows.
use Rattle.std.specs.Prelude.{◌≡◌, List, [], ◌∷◌, ◌++◌, map, codes, Option, Some, None, refl}
use Rattle.scope_defs.specs.declared.types.StdType.TheVariants.{Other, Comment, Text, RegEx}
use Rattle.pairing_defs.specs.OnLiterals.{words_on_literals}
use Rattle.pairing_defs.specs.declared.Row.{Row}
use Rattle.pairing_defs.specs.Marks.{text_marks}
use Rattle.pairing_defs.specs.Pairing.{paired}
use Rattle.pairing_defs.specs.Examples.{word_texts}
use Rattle.answer_defs.specs.declared.answer.Question.TheVariants as question
use Rattle.answer_defs.specs.declared.answer.Answer.TheVariants as answer
use Rattle.answer_defs.specs.declared.refusal.QuestionRefusal.TheVariants as refusal
use Rattle.answer_defs.specs.declared.pair_answer.Twin.{Twin}
use Rattle.answer_defs.specs.TokenAnswers.{type_number}
use Rattle.answer_defs.specs.PairAnswers.{match_in, level_in, jump_in, guides_in, indentation}
use Rattle.answer_defs.specs.Answers.{brackets_in, question_refusal, answer_among}
use Rattle.answer_defs.specs.PairAnswerExamples.{rows, at, mark, guide}

-- ---- brackets of several characters

-- the rows of `begin a end`, whose brackets are the two words
abbrev rows_of_words : List Row
rows_of_words = paired 200 (at 0 11) (text_marks word_texts 20000 (codes "begin a end" ∷ []))

-- the first word and its partner, and the other way round
abbrev from_begin : Option Twin
from_begin = Some (record { first = record { from = at 0 0; to = at 0 5 }; second = record { from = at 0 8; to = at 0 11 } })

abbrev from_end : Option Twin
from_end = Some (record { first = record { from = at 0 8; to = at 0 11 }; second = record { from = at 0 0; to = at 0 5 } })

-- at its first, a further and its last character, and at its end
pub each_character_of_a_bracket_is_touched :
    map (match_in rows_of_words) (at 0 0 ∷ at 0 3 ∷ at 0 4 ∷ at 0 5 ∷ at 0 6 ∷ at 0 8 ∷ at 0 10 ∷ at 0 11 ∷ [])
    ≡ from_begin ∷ from_begin ∷ from_begin ∷ from_begin ∷ None ∷ from_end ∷ from_end ∷ from_end ∷ []
unfolding words_on_literals
each_character_of_a_bracket_is_touched = refl

pub the_inside_begins_behind_the_last_character :
    map (level_in rows_of_words) (at 0 0 ∷ at 0 1 ∷ at 0 4 ∷ at 0 5 ∷ at 0 8 ∷ at 0 9 ∷ []) ≡ 0 ∷ 0 ∷ 0 ∷ 1 ∷ 1 ∷ 0 ∷ []
unfolding words_on_literals
the_inside_begins_behind_the_last_character = refl

-- ---- where to jump

-- the pair around the place ends at column 3
pub a_jump_from_a_bracket_goes_to_its_partner_first : jump_in (rows ("[()]" ∷ [])) (at 0 1) ≡ Some (at 0 2)
unfolding words_on_literals
a_jump_from_a_bracket_goes_to_its_partner_first = refl

pub a_jump_from_outside_goes_to_the_first_of_two : jump_in (rows ("a(b)" ∷ [])) (at 0 0) ≡ Some (at 0 1)
unfolding words_on_literals
a_jump_from_outside_goes_to_the_first_of_two = refl

-- ---- guides

-- the opener's line is indented less than the closer's
pub a_guide_stands_no_further_in_than_the_opener :
    guides_in 4 (map codes (" (" ∷ "a" ∷ "    )" ∷ [])) (rows (" (" ∷ "a" ∷ "    )" ∷ [])) 0 2 ≡ guide 1 1 0 ∷ guide 2 1 0 ∷ []
unfolding words_on_literals
a_guide_stands_no_further_in_than_the_opener = refl

-- a space and two tabs, of 1, 3 and 8 columns
pub tabs_of_other_widths : map (λ tab. indentation tab (32 ∷ 9 ∷ 9 ∷ 97 ∷ [])) (1 ∷ 3 ∷ 8 ∷ []) ≡ 3 ∷ 6 ∷ 16 ∷ []
tabs_of_other_widths = refl

-- a no-break space, a form feed behind a space, and an ideographic space
pub only_spaces_and_tabs_indent : map (indentation 4) ((160 ∷ 32 ∷ 97 ∷ []) ∷ (32 ∷ 12 ∷ 32 ∷ []) ∷ (0x3000 ∷ []) ∷ [] ∷ []) ≡ 0 ∷ 1 ∷ 0 ∷ 0 ∷ []
only_spaces_and_tabs_indent = refl

-- ---- brackets of lines

-- the `[` is closed off, so that it has the colour 6
pub brackets_of_a_line_in_the_middle : brackets_in 1 1 (rows ("(" ∷ "[" ∷ ")" ∷ []))
    ≡ record { at = mark 1 0 1; level = 1; own = 0; colour = 6 } ∷ []
unfolding words_on_literals
brackets_of_a_line_in_the_middle = refl

-- ---- refusals

-- `ab` and `c`: a range that ends before it begins, and one past the last line
pub ranges_of_guides_are_refused :
    map (question_refusal (codes "ab" ++ 10 ∷ codes "c")) (question.Guides 1 0 ∷ question.Guides 0 2 ∷ question.Guides 2 2 ∷ question.Guides 0 1 ∷ question.Guides 1 1 ∷ [])
    ≡ Some (refusal.Line 2) ∷ Some (refusal.Line 2) ∷ Some (refusal.Line 2) ∷ None ∷ None ∷ []
ranges_of_guides_are_refused = refl

pub lines_are_refused_by_their_number : map (question_refusal (codes "ab" ++ 10 ∷ codes "c")) (question.Tokens 2 ∷ question.Line 2 ∷ question.Tokens 1 ∷ question.Line 1 ∷ [])
    ≡ Some (refusal.Line 2) ∷ Some (refusal.Line 2) ∷ None ∷ None ∷ []
lines_are_refused_by_their_number = refl

-- the column 9 in the first line, which has 2 characters, and in the second, which has one; and a line that isn't there
pub places_are_refused_by_the_length_of_their_line :
    (map (λ at. question_refusal (codes "ab" ++ 10 ∷ codes "c") (question.Jump at)) (at 0 9 ∷ at 1 9 ∷ at 2 9 ∷ at 0 2 ∷ at 1 1 ∷ [])
    ≡ Some (refusal.Place 2) ∷ Some (refusal.Place 1) ∷ Some (refusal.Line 2) ∷ None ∷ None ∷ [])
    × (map (question_refusal (codes "ab" ++ 10 ∷ codes "c")) (question.Match (at 0 9) ∷ question.Around (at 0 9) ∷ question.Level (at 1 9) ∷ [])
    ≡ Some (refusal.Place 2) ∷ Some (refusal.Place 2) ∷ Some (refusal.Place 1) ∷ [])
places_are_refused_by_the_length_of_their_line = (refl, refl)

-- ---- tokens

pub the_numbers_of_the_types : map type_number (Other ∷ Comment ∷ Text ∷ RegEx ∷ []) ≡ 0 ∷ 1 ∷ 2 ∷ 3 ∷ []
the_numbers_of_the_types = refl

-- the second line is a comment and a string
pub tokens_of_a_line_in_the_middle :
    answer_among 4 []
    ((record { from = 0; to = 2; scopes = [] } ∷ [])
    ∷ (record { from = 0; to = 1; scopes = codes "comment" ∷ [] } ∷ record { from = 1; to = 3; scopes = codes "string" ∷ [] } ∷ [])
    ∷ (record { from = 0; to = 1; scopes = [] } ∷ []) ∷ [])
    (codes "ab" ++ 10 ∷ codes "abc" ++ 10 ∷ codes "a") (question.Tokens 1)
    ≡ answer.Tokens (record { from = 0; to = 1; scopes = codes "comment" ∷ []; kind = 1 } ∷ record { from = 1; to = 3; scopes = codes "string" ∷ []; kind = 2 } ∷ [])
tokens_of_a_line_in_the_middle = refl
