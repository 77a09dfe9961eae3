-- Worked examples of marks and of pairing, each named by what it shows.
use Rattle.std.specs.Prelude.{◌≡◌, ℕ, ◌-◌, ◌==◌, nat_lt, not, true, false, List, [], ◌∷◌, length, map, codes, Option, Some, None, refl}
use Rattle.pairing_defs.specs.OnLiterals.{words_on_literals}
use Rattle.pairing_defs.specs.declared.Role.TheVariants.{Opener, Closer}
use Rattle.pairing_defs.specs.declared.BracketText.{BracketText}
use Rattle.pairing_defs.specs.declared.LineMark.{LineMark}
use Rattle.pairing_defs.specs.declared.Row.{Row}
use Rattle.pairing_defs.specs.Marks.{usual_texts, every_column, counts_by, marks_of, text_marks}
use Rattle.scope_defs.specs.declared.types.StdType.TheVariants.{Other, Comment, Text, RegEx}
use Rattle.scope_defs.specs.declared.types.TypeRun.{TypeRun}
use Rattle.pairing_defs.specs.Pairing.{paired}

-- a row's line, first column, the column behind its last, level, kind level and colour
abbrev pub shown : Row → List ℕ
shown r = r.mark.at.line ∷ r.mark.at.col ∷ r.mark.to ∷ r.level ∷ r.own ∷ r.colour ∷ []

abbrev pub last_length : List (List ℕ) → ℕ
last_length [] = 0
last_length (line ∷ []) = length line
last_length (line ∷ next ∷ rest) = last_length (next ∷ rest)

-- the rows of lines with the usual brackets, at a nesting limit
abbrev pub rows_at : ℕ → List (List ℕ) → List Row
rows_at limit lines = paired limit (record { line = length lines - 1; col = last_length lines }) (text_marks usual_texts 20000 lines)

abbrev pub shown_at : ℕ → List (List ℕ) → List (List ℕ)
shown_at limit lines = map shown (rows_at limit lines)

-- a mark's first column and the column behind its last
abbrev pub columns : LineMark → ℕ × ℕ
columns m = (m.from, m.to)

-- a row's level and kind level
abbrev pub levels : Row → ℕ × ℕ
levels r = (r.level, r.own)

-- a row's partner, and the column where its inside ends
abbrev pub ends : Row → Option ℕ × ℕ
ends r = (r.partner, r.inner.col)

-- a row's level and partner
abbrev pub pairs : Row → ℕ × Option ℕ
pairs r = (r.level, r.partner)

pub the_closer_takes_the_last_opener_of_its_kind : shown_at 200 (codes "([)]" ∷ [])
    ≡ (0 ∷ 0 ∷ 1 ∷ 0 ∷ 0 ∷ 0 ∷ []) ∷ (0 ∷ 1 ∷ 2 ∷ 1 ∷ 0 ∷ 6 ∷ []) ∷ (0 ∷ 2 ∷ 3 ∷ 0 ∷ 0 ∷ 0 ∷ []) ∷ (0 ∷ 3 ∷ 4 ∷ 0 ∷ 0 ∷ 6 ∷ []) ∷ []
unfolding words_on_literals
the_closer_takes_the_last_opener_of_its_kind = refl

pub a_closer_of_nothing_open_is_unexpected : shown_at 200 ([] ∷ codes "a ) b" ∷ []) ≡ (1 ∷ 2 ∷ 3 ∷ 0 ∷ 0 ∷ 6 ∷ []) ∷ []
unfolding words_on_literals
a_closer_of_nothing_open_is_unexpected = refl

-- the last closer is unexpected, since the opener at the limit was none
pub an_opener_at_the_limit_is_text : shown_at 2 (codes "((()))" ∷ [])
    ≡ (0 ∷ 0 ∷ 1 ∷ 0 ∷ 0 ∷ 0 ∷ []) ∷ (0 ∷ 1 ∷ 2 ∷ 1 ∷ 1 ∷ 1 ∷ []) ∷ (0 ∷ 3 ∷ 4 ∷ 1 ∷ 1 ∷ 1 ∷ []) ∷ (0 ∷ 4 ∷ 5 ∷ 0 ∷ 0 ∷ 0 ∷ []) ∷ (0 ∷ 5 ∷ 6 ∷ 0 ∷ 0 ∷ 6 ∷ []) ∷ []
unfolding words_on_literals
an_opener_at_the_limit_is_text = refl

pub a_closer_of_another_kind_is_unexpected_at_the_level_there : shown_at 200 (codes "(]" ∷ []) ≡ (0 ∷ 0 ∷ 1 ∷ 0 ∷ 0 ∷ 6 ∷ []) ∷ (0 ∷ 1 ∷ 2 ∷ 1 ∷ 0 ∷ 6 ∷ []) ∷ []
unfolding words_on_literals
a_closer_of_another_kind_is_unexpected_at_the_level_there = refl

pub the_kind_level_counts_its_own_kind : map levels (rows_at 200 (codes "([(" ∷ [])) ≡ (0, 0) ∷ (1, 0) ∷ (2, 1) ∷ []
unfolding words_on_literals
the_kind_level_counts_its_own_kind = refl

pub colours_begin_anew_at_level_six : map (λ r. r.colour) (rows_at 200 (codes "((((((()))))))" ∷ []))
    ≡ 0 ∷ 1 ∷ 2 ∷ 3 ∷ 4 ∷ 5 ∷ 0 ∷ 0 ∷ 5 ∷ 4 ∷ 3 ∷ 2 ∷ 1 ∷ 0 ∷ []
unfolding words_on_literals
colours_begin_anew_at_level_six = refl

pub partners_are_numbers_of_rows : map (λ r. r.partner) (rows_at 200 (codes ")()" ∷ [])) ≡ None ∷ Some 2 ∷ Some 1 ∷ []
unfolding words_on_literals
partners_are_numbers_of_rows = refl

-- both stay without partner, and their insides end where the closer starts
pub a_closer_removes_the_openers_behind_its_own : map ends (rows_at 200 (codes "([{)" ∷ []))
    ≡ (Some 3, 3) ∷ (None, 3) ∷ (None, 3) ∷ (Some 0, 3) ∷ []
unfolding words_on_literals
a_closer_removes_the_openers_behind_its_own = refl

pub an_opener_that_nothing_removes_ends_with_the_text : map (λ r. r.inner) (rows_at 200 (codes "(" ∷ codes "ab" ∷ [])) ≡ record { line = 1; col = 2 } ∷ []
unfolding words_on_literals
an_opener_that_nothing_removes_ends_with_the_text = refl

pub letters_are_no_marks : map columns (marks_of usual_texts 20000 every_column (codes "f(x)[0]")) ≡ (1, 2) ∷ (3, 4) ∷ (4, 5) ∷ (6, 7) ∷ []
unfolding words_on_literals
letters_are_no_marks = refl

pub a_long_line_has_no_marks : marks_of usual_texts 3 every_column (codes "()a") ≡ []
unfolding words_on_literals
a_long_line_has_no_marks = refl

pub a_line_below_the_limit_has_marks : map columns (marks_of usual_texts 4 every_column (codes "()a")) ≡ (0, 1) ∷ (1, 2) ∷ []
unfolding words_on_literals
a_line_below_the_limit_has_marks = refl

-- texts of one and two characters, two of which are equal
abbrev pub odd_texts : List BracketText
odd_texts = record { text = codes "<"; role = Opener 0 } ∷ record { text = codes "<<"; role = Opener 1 } ∷ record { text = codes "<<"; role = Opener 2 }
    ∷ record { text = codes ">>"; role = Closer (record { bits = 3 }) } ∷ []

pub the_longest_text_is_the_mark : map columns (marks_of odd_texts 20000 every_column (codes "<<<")) ≡ (0, 2) ∷ (2, 3) ∷ []
unfolding words_on_literals
the_longest_text_is_the_mark = refl

pub the_first_of_equal_texts_is_the_mark : map (λ m. m.role) (marks_of odd_texts 20000 every_column (codes "<<")) ≡ Opener 1 ∷ []
unfolding words_on_literals
the_first_of_equal_texts_is_the_mark = refl

-- the columns from 2 on don't count, as those of a string
pub a_bracket_where_columns_do_not_count_is_no_mark :
    map columns (marks_of usual_texts 20000 (λ column. nat_lt column 2) (codes "()()")) ≡ (0, 1) ∷ (1, 2) ∷ []
unfolding words_on_literals
a_bracket_where_columns_do_not_count_is_no_mark = refl

-- the second column doesn't count, so no text of two characters stands on it
pub a_text_stands_only_where_each_of_its_columns_counts :
    map columns (marks_of odd_texts 20000 (λ column. not (column == 1)) (codes "<<<<")) ≡ (0, 1) ∷ (2, 4) ∷ []
unfolding words_on_literals
a_text_stands_only_where_each_of_its_columns_counts = refl

-- ">>" closes kinds 0 and 1
pub a_closer_of_two_kinds_takes_the_last_of_either : map pairs (paired 200 (record { line = 0; col = 8 }) (text_marks odd_texts 20000 (codes "< <<>>>>" ∷ [])))
    ≡ (0, Some 3) ∷ (1, Some 2) ∷ (1, Some 1) ∷ (0, Some 0) ∷ []
unfolding words_on_literals
a_closer_of_two_kinds_takes_the_last_of_either = refl

-- ---- words

-- a word and its end as brackets
abbrev pub word_texts : List BracketText
word_texts = record { text = codes "begin"; role = Opener 0 } ∷ record { text = codes "end"; role = Closer (record { bits = 1 }) } ∷ []

pub a_word_inside_a_word_is_no_mark : map columns (marks_of word_texts 20000 every_column (codes "begin endx xend end")) ≡ (0, 5) ∷ (16, 19) ∷ []
unfolding words_on_literals
a_word_inside_a_word_is_no_mark = refl

-- no letter stands beside them: a sign, a space or the line's end may; a digit and `_` belong to words
pub signs_beside_a_word_leave_it_a_mark : map columns (marks_of word_texts 20000 every_column (codes "(end)end1_end-end")) ≡ (1, 4) ∷ (14, 17) ∷ []
unfolding words_on_literals
signs_beside_a_word_leave_it_a_mark = refl

-- only the edges that are letters ask for it: `#if` may follow a letter, and none may follow it
abbrev pub half_texts : List BracketText
half_texts = record { text = codes "#if"; role = Opener 0 } ∷ []

pub only_edges_of_letters_count : map columns (marks_of half_texts 20000 every_column (codes "a#if #ifa #if")) ≡ (1, 4) ∷ (10, 13) ∷ []
unfolding words_on_literals
only_edges_of_letters_count = refl

-- ---- tokens

-- a string from column 2 on, and a comment from 4 to 6
abbrev pub a_string_and_a_comment : List TypeRun
a_string_and_a_comment = record { to = 2; kind = Other } ∷ record { to = 4; kind = Text } ∷ record { to = 6; kind = Comment } ∷ record { to = 8; kind = Other } ∷ []

pub brackets_of_strings_and_comments_are_no_marks : map columns (marks_of usual_texts 20000 (counts_by a_string_and_a_comment) (codes "()()()()")) ≡ (0, 1) ∷ (1, 2) ∷ (6, 7) ∷ (7, 8) ∷ []
unfolding words_on_literals
brackets_of_strings_and_comments_are_no_marks = refl

-- the text of two characters stands half in the string
pub a_text_half_in_a_string_is_no_mark : map columns (marks_of odd_texts 20000 (counts_by a_string_and_a_comment) (codes "a<<<<<<<")) ≡ (1, 2) ∷ (6, 8) ∷ []
unfolding words_on_literals
a_text_half_in_a_string_is_no_mark = refl

-- one run for the whole line, as without a grammar; a run that ends before the one before it has no column
pub where_all_is_other_every_column_counts : map (counts_by (record { to = 5; kind = Other } ∷ [])) (0 ∷ 4 ∷ 5 ∷ 9 ∷ []) ≡ true ∷ true ∷ true ∷ true ∷ []
where_all_is_other_every_column_counts = refl

pub the_first_run_behind_a_column_has_it : map (counts_by (record { to = 2; kind = RegEx } ∷ record { to = 1; kind = Other } ∷ record { to = 3; kind = Comment } ∷ [])) (0 ∷ 1 ∷ 2 ∷ 3 ∷ []) ≡ false ∷ false ∷ false ∷ true ∷ []
the_first_run_behind_a_column_has_it = refl
