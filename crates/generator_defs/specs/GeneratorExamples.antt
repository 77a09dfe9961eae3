-- Worked examples of generated texts, edits and summaries, each named by what it shows. Each holds by computing alone.
use Rattle.std.specs.Prelude.{◌≡◌, ℕ, [], ◌∷◌, ◌++◌, map, codes, replicate, length, refl}
use Rattle.text_pos.specs.declared.length.Pos.{Pos}
use Rattle.text_defs.specs.Text.{lines_of, line_count}
use Rattle.pairing_defs.specs.Examples.{rows_at}
use Rattle.pairing_defs.specs.OnLiterals.{words_on_literals}
use Rattle.generator_defs.specs.declared.Made.{Made}
use Rattle.generator_defs.specs.GeneratedText.{piece, generated_line, generated_text, generated_edit, text_after, deletion, insertion}
use Rattle.generator_defs.specs.Summary.{summary}

abbrev pub at : ℕ → ℕ → Pos
at line col = record { line = line; col = col }

abbrev pub made : ℕ → ℕ → ℕ → ℕ → Made
made lines rows bad deepest = record { lines = lines; rows = rows; bad = bad; deepest = deepest }

-- ---- texts

pub pieces_are_eight_characters_that_go_round : map piece (0 ∷ 1 ∷ 2 ∷ 3 ∷ 4 ∷ 5 ∷ 6 ∷ 7 ∷ 8 ∷ 15 ∷ []) ≡ codes "([{)]}a ( "
unfolding piece
pieces_are_eight_characters_that_go_round = refl

-- the first line begins with piece n and goes on by fives
pub text_of_one_line : generated_text 1 ≡ codes "[a)(}{ ][a)("
unfolding piece generated_line generated_text
text_of_one_line = refl

-- each line begins three pieces further than the one before it, and goes on by one more
pub text_of_three_lines : lines_of (generated_text 3) ≡ codes ")(}{ ][a)(}{" ∷ codes "a]{(a]{(a]{(" ∷ codes "[( a}]){[( a" ∷ []
unfolding piece generated_line generated_text
text_of_three_lines = refl

-- in the fourth line they go on by eights, so that all are the same; in the third by sevens
pub text_of_four_lines : lines_of (generated_text 4) ≡ codes "][a)(}{ ][a)" ∷ codes " })[ })[ })[" ∷ codes "{[( a}]){[( " ∷ replicate 12 125 ∷ []
unfolding piece generated_line generated_text
text_of_four_lines = refl

-- no LF stands behind the last line
pub lines_of_a_text : map (λ n. line_count (generated_text n)) (1 ∷ 2 ∷ 40 ∷ []) ≡ 1 ∷ 2 ∷ 40 ∷ []
unfolding piece generated_line generated_text
lines_of_a_text = refl

-- twelve characters for each line, and an LF between two
pub length_of_a_text : map (λ n. length (generated_text n)) (1 ∷ 2 ∷ 40 ∷ []) ≡ 12 ∷ 25 ∷ 519 ∷ []
unfolding piece generated_line generated_text
length_of_a_text = refl

-- ---- edits

-- the first edits of the text of one line: pieces 6, 3 and 0 at columns 11, 22 mod 14 and 33 mod 15; then a deletion at 44 mod 16
pub first_edits : generated_edit 1 1 (codes "[a)(}{ ][a)(") ∷ generated_edit 1 2 (codes "[a)(}{ ][a)a(") ∷ generated_edit 1 3 (codes "[a)(}{ ])[a)a(")
    ∷ generated_edit 1 4 (codes "[a)((}{ ])[a)a(") ∷ []
    ≡ insertion (at 0 11) 97 ∷ insertion (at 0 8) 41 ∷ insertion (at 0 3) 40 ∷ deletion (at 0 12) ∷ []
unfolding piece generated_edit
first_edits = refl

-- an insertion has no span, and a deletion that of one character
pub spans_of_edits : (generated_edit 1 1 []).span ∷ (generated_edit 1 8 (codes "[a )((}{ ")).span ∷ []
    ≡ record { from = at 0 0; to = at 0 0 } ∷ record { from = at 0 8; to = at 0 9 } ∷ []
unfolding piece generated_edit
spans_of_edits = refl

-- each eighth edit, from the seventh on, inserts an LF
pub edits_that_insert_a_line_end : map (λ j. generated_edit 1 j []) (7 ∷ 15 ∷ 199 ∷ 3 ∷ 11 ∷ [])
    ≡ insertion (at 0 0) 10 ∷ insertion (at 0 0) 10 ∷ insertion (at 0 0) 10 ∷ insertion (at 0 0) 40 ∷ insertion (at 0 0) 40 ∷ []
unfolding piece generated_edit
edits_that_insert_a_line_end = refl

-- where the column is the line's length, there is nothing to delete, and a piece is inserted: in an empty line always
pub nothing_to_delete : generated_edit 1 4 (replicate 13 40) ∷ generated_edit 1 4 (replicate 14 40) ∷ generated_edit 1 4 [] ∷ []
    ≡ deletion (at 0 2) ∷ insertion (at 0 14) 125 ∷ insertion (at 0 0) 125 ∷ []
unfolding piece generated_edit
nothing_to_delete = refl

-- the line is 37 times the edit's number, modulo the lines, and the column goes by that line alone
pub edits_of_three_lines : map (λ j. generated_edit 3 j (codes "a" ++ 10 ∷ codes "ab" ++ 10 ∷ codes "abc")) (1 ∷ 2 ∷ 3 ∷ 4 ∷ 5 ∷ [])
    ≡ insertion (at 1 2) 40 ∷ insertion (at 2 2) 125 ∷ insertion (at 0 1) 123 ∷ insertion (at 1 2) 32 ∷ insertion (at 2 3) 93 ∷ []
unfolding piece generated_edit
edits_of_three_lines = refl

-- each edit is made of the text that the one before it left
pub texts_after_edits : map (text_after 1) (0 ∷ 1 ∷ 4 ∷ 8 ∷ [])
    ≡ codes "[a)(}{ ][a)(" ∷ codes "[a)(}{ ][a)a(" ∷ codes "[a)((}{ ])[aa(" ∷ (codes "[a )((}{" ++ 10 ∷ codes "]){[aa(") ∷ []
unfolding piece generated_line generated_text generated_edit text_after
texts_after_edits = refl

-- an edit in an empty line, which an LF at a line's start has made
pub text_after_sixteen_edits : lines_of (text_after 1 16) ≡ codes "[ a )((}{" ∷ codes "[" ∷ codes "]){{a([aa(" ∷ []
unfolding piece generated_line generated_text generated_edit text_after
text_after_sixteen_edits = refl

-- an eighth of the edits adds a line, and no edit takes one away
pub lines_after_all_edits : map (λ edits. line_count (text_after 1 edits)) (50 ∷ 100 ∷ 150 ∷ 200 ∷ []) ≡ 7 ∷ 13 ∷ 19 ∷ 26 ∷ []
unfolding piece generated_line generated_text generated_edit text_after
lines_after_all_edits = refl

-- ---- summaries

pub summary_of_no_rows : summary 7 [] ≡ made 7 0 0 0
unfolding summary
summary_of_no_rows = refl

-- the text of one line: one pair of the nine brackets is closed, and three are open at once
pub summary_of_one_line : summary 1 (rows_at 200 (lines_of (generated_text 1))) ≡ made 1 9 7 3
unfolding piece generated_line generated_text summary words_on_literals
summary_of_one_line = refl

-- a closer of nothing counts for the depth: it has the level of a bracket inside
pub unexpected_closer_is_deep : summary 1 (rows_at 200 (codes "(]" ∷ [])) ≡ made 1 2 2 2
unfolding summary words_on_literals
unexpected_closer_is_deep = refl

-- a pair has its level, and no bad row
pub summary_of_pairs : summary 2 (rows_at 200 (codes "(()" ∷ codes ")[]" ∷ [])) ≡ made 2 6 0 2
unfolding summary words_on_literals
summary_of_pairs = refl

-- a level of 6 has the colour of level 0, and isn't bad
pub seven_pairs_deep : summary 1 (rows_at 200 (codes "((((((()))))))" ∷ [])) ≡ made 1 14 0 7
unfolding summary words_on_literals
seven_pairs_deep = refl

-- an opener at the nesting limit has no row
pub summary_at_the_nesting_limit : summary 1 (rows_at 2 (codes "((()))" ∷ [])) ≡ made 1 5 1 2
unfolding summary words_on_literals
summary_at_the_nesting_limit = refl
