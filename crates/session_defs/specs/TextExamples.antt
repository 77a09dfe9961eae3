-- Worked examples of texts, places and batches. Each holds by computing alone.
use Rattle.std.specs.Prelude.{◌≡◌, ℕ, List, [], ◌∷◌, map, replicate, true, false, codes, refl, Some, None}
use lib.Utf8.{encode}
use Rattle.std.specs.Str.{chars, is_utf8 as std_is_utf8}
use Rattle.std.specs.Str.Lossy.{utf8_valid_len}
use Rattle.text_pos.specs.declared.length.Pos.{Pos}
use Rattle.text_defs.specs.Text.{is_utf8, text_of, lines_of}
use Rattle.text_defs.specs.Place.{place_of, holds, offset_of}
use Rattle.text_defs.specs.Batch.{TextEdit, range, order, too_many_lines, size_fault, batch_refusal, edited, is_touched}

abbrev pub at : ℕ → ℕ → Pos
at line col = record { line = line; col = col }

-- the edit that a script gives as `[l1,c1,l2,c2,"text"]`
abbrev pub edit : ℕ → ℕ → ℕ → ℕ → List ℕ → TextEdit
edit l1 c1 l2 c2 text = record { span = record { from = at l1 c1; to = at l2 c2 }; text = text }

-- `ab`, an LF and `c`
abbrev pub two_lines : List ℕ
two_lines = 97 ∷ 98 ∷ 10 ∷ 99 ∷ []

-- ---- texts

-- CR LF, CR and LF each end a line, and none is part of one: `a` CR LF `b` CR `c` LF `d`
pub each_line_end_ends_a_line : lines_of (text_of (97 ∷ 13 ∷ 10 ∷ 98 ∷ 13 ∷ 99 ∷ 10 ∷ 100 ∷ [])) ≡ codes "a" ∷ codes "b" ∷ codes "c" ∷ codes "d" ∷ []
unfolding chars
each_line_end_ends_a_line = refl

-- CR CR LF are two line ends, so three empty lines
pub cr_before_cr_lf_ends_a_line : lines_of (text_of (13 ∷ 13 ∷ 10 ∷ [])) ≡ [] ∷ [] ∷ [] ∷ []
unfolding chars
cr_before_cr_lf_ends_a_line = refl

-- LF CR are two line ends
pub cr_behind_lf_ends_a_line : lines_of (text_of (97 ∷ 10 ∷ 13 ∷ 98 ∷ [])) ≡ codes "a" ∷ [] ∷ codes "b" ∷ []
unfolding chars
cr_behind_lf_ends_a_line = refl

-- an empty file is one empty line
pub empty_file_is_one_empty_line : lines_of (text_of []) ≡ [] ∷ []
unfolding chars
empty_file_is_one_empty_line = refl

-- a text that ends in a line end has an empty last line, for LF and for CR at the very end of the file
pub line_end_at_the_end_begins_an_empty_line :
    map (λ bytes. lines_of (text_of bytes)) ((97 ∷ 10 ∷ []) ∷ (97 ∷ 13 ∷ []) ∷ (97 ∷ 13 ∷ 10 ∷ []) ∷ [])
    ≡ (codes "a" ∷ [] ∷ []) ∷ (codes "a" ∷ [] ∷ []) ∷ (codes "a" ∷ [] ∷ []) ∷ []
unfolding chars
line_end_at_the_end_begins_an_empty_line = refl

-- a U+FEFF at the start of a file falls away
pub first_byte_order_mark_falls_away : text_of (0xEF ∷ 0xBB ∷ 0xBF ∷ 97 ∷ []) ≡ codes "a"
unfolding chars
first_byte_order_mark_falls_away = refl

-- a second one is a character, and so is one elsewhere
pub other_byte_order_marks_stay :
    map text_of ((0xEF ∷ 0xBB ∷ 0xBF ∷ 0xEF ∷ 0xBB ∷ 0xBF ∷ 97 ∷ []) ∷ (97 ∷ 0xEF ∷ 0xBB ∷ 0xBF ∷ []) ∷ [])
    ≡ (0xFEFF ∷ 97 ∷ []) ∷ (97 ∷ 0xFEFF ∷ []) ∷ []
unfolding chars
other_byte_order_marks_stay = refl

-- a character of two, three or four bytes is one character: e acute, the euro sign and U+1F600
pub characters_are_counted_and_not_bytes :
    text_of (0xC3 ∷ 0xA9 ∷ 0xE2 ∷ 0x82 ∷ 0xAC ∷ 0xF0 ∷ 0x9F ∷ 0x98 ∷ 0x80 ∷ []) ≡ 0xE9 ∷ 0x20AC ∷ 0x1F600 ∷ []
unfolding chars
characters_are_counted_and_not_bytes = refl

-- the bytes of an `a` and of half a character are no text, and the fault is at 1; the byte 255 begins none
pub bytes_that_are_no_characters :
    (map is_utf8 ((97 ∷ 195 ∷ []) ∷ (255 ∷ []) ∷ (97 ∷ 195 ∷ 169 ∷ []) ∷ [] ∷ []) ≡ false ∷ false ∷ true ∷ true ∷ [])
    × (map utf8_valid_len ((97 ∷ 195 ∷ []) ∷ (255 ∷ []) ∷ []) ≡ 1 ∷ 0 ∷ [])
unfolding chars std_is_utf8 utf8_valid_len encode
bytes_that_are_no_characters = (refl, refl)

-- ---- places

-- the place of each offset of `ab` LF `c`: an LF is the last column of its line
pub places_of_offsets : map (place_of two_lines) (0 ∷ 1 ∷ 2 ∷ 3 ∷ 4 ∷ []) ≡ at 0 0 ∷ at 0 1 ∷ at 0 2 ∷ at 1 0 ∷ at 1 1 ∷ []
places_of_offsets = refl

-- and back
pub offsets_of_places : map (offset_of two_lines) (at 0 0 ∷ at 0 1 ∷ at 0 2 ∷ at 1 0 ∷ at 1 1 ∷ []) ≡ 0 ∷ 1 ∷ 2 ∷ 3 ∷ 4 ∷ []
offsets_of_places = refl

-- the column may be the line's length and no more, and the line must be there
pub places_that_hold :
    map (holds two_lines) (at 0 2 ∷ at 0 3 ∷ at 1 0 ∷ at 1 1 ∷ at 1 2 ∷ at 2 0 ∷ [])
    ≡ true ∷ false ∷ true ∷ true ∷ false ∷ false ∷ []
places_that_hold = refl

-- an empty text has one place
pub empty_text_has_one_place : map (holds []) (at 0 0 ∷ at 0 1 ∷ at 1 0 ∷ []) ≡ true ∷ false ∷ false ∷ []
empty_text_has_one_place = refl

-- ---- batches

-- both spans are places of the text before the batch: `abc` becomes `xbyy`
pub edits_of_one_line_are_made_at_once : edited (codes "abc") (edit 0 0 0 1 (codes "x") ∷ edit 0 2 0 3 (codes "yy") ∷ []) ≡ codes "xbyy"
edits_of_one_line_are_made_at_once = refl

-- a longer text in front moves no later span: `((()))` becomes `[((()))]`
pub insertions_at_both_ends : edited (codes "((()))") (edit 0 0 0 0 (codes "[") ∷ edit 0 6 0 6 (codes "]") ∷ []) ≡ codes "[((()))]"
insertions_at_both_ends = refl

-- two insertions at one place stand in their order, and are accepted
pub insertions_at_one_place_keep_their_order :
    (batch_refusal (codes "ab") (edit 0 1 0 1 (codes "x") ∷ edit 0 1 0 1 (codes "y") ∷ []) ≡ None)
    × (edited (codes "ab") (edit 0 1 0 1 (codes "x") ∷ edit 0 1 0 1 (codes "y") ∷ []) ≡ codes "axyb")
insertions_at_one_place_keep_their_order = (refl, refl)

-- the text of an edit is normalised by itself: a CR, and in the next edit an LF, are two line ends
pub line_ends_of_two_edits_do_not_join : edited (codes "ab") (edit 0 1 0 1 (13 ∷ []) ∷ edit 0 1 0 1 (10 ∷ []) ∷ []) ≡ 97 ∷ 10 ∷ 10 ∷ 98 ∷ []
line_ends_of_two_edits_do_not_join = refl

-- a U+FEFF in an edit stays, at the start of the text too
pub byte_order_mark_of_an_edit_stays : edited [] (edit 0 0 0 0 (0xFEFF ∷ []) ∷ []) ≡ 0xFEFF ∷ []
byte_order_mark_of_an_edit_stays = refl

-- a span over a line end joins two lines
pub span_over_a_line_end_joins_lines : edited two_lines (edit 0 2 1 0 [] ∷ []) ≡ codes "abc"
span_over_a_line_end_joins_lines = refl

-- an empty batch is accepted and changes nothing
pub empty_batch_changes_nothing : (batch_refusal two_lines [] ≡ None) × (edited two_lines [] ≡ two_lines)
empty_batch_changes_nothing = (refl, refl)

-- an edit may start where the one before ends
pub edit_at_the_end_of_the_one_before_is_in_order :
    (batch_refusal (codes "abc") (edit 0 0 0 1 [] ∷ edit 0 1 0 2 (codes "q") ∷ []) ≡ None)
    × (edited (codes "abc") (edit 0 0 0 1 [] ∷ edit 0 1 0 2 (codes "q") ∷ []) ≡ codes "qc")
edit_at_the_end_of_the_one_before_is_in_order = (refl, refl)

-- it may not start before that
pub edit_before_the_one_before_is_refused : batch_refusal (codes "abc") (edit 0 2 0 3 (codes "q") ∷ edit 0 0 0 1 (codes "q") ∷ []) ≡ Some (order 1)
edit_before_the_one_before_is_refused = refl

-- a place past the end of its line, a line that isn't there and an end before the start are out of range
pub edits_out_of_range :
    map (batch_refusal (codes "abc")) ((edit 0 9 0 9 (codes "q") ∷ []) ∷ (edit 0 0 1 0 [] ∷ []) ∷ (edit 0 2 0 1 [] ∷ []) ∷ [])
    ≡ Some (range 0) ∷ Some (range 0) ∷ Some (range 0) ∷ []
edits_out_of_range = refl

-- at one edit range is tested before order
pub range_is_tested_before_order : batch_refusal (codes "abc") (edit 0 2 0 3 [] ∷ edit 0 0 0 9 [] ∷ []) ≡ Some (range 1)
range_is_tested_before_order = refl

-- the first edit that fails decides, though a later one is out of range
pub first_edit_that_fails_decides : batch_refusal (codes "abc") (edit 0 2 0 3 [] ∷ edit 0 0 0 1 [] ∷ edit 0 9 0 9 [] ∷ []) ≡ Some (order 1)
first_edit_that_fails_decides = refl

-- places are those before the batch: what an edit inserts is no place for the next
pub inserted_text_has_no_places : batch_refusal [] (edit 0 0 0 0 (codes "abc") ∷ edit 0 1 0 1 [] ∷ []) ≡ Some (range 1)
inserted_text_has_no_places = refl

-- a text of 2^18 lines is small enough, and one of 2^18 + 1 lines isn't (262,143 and 262,144 times LF)
pub limit_on_lines : (size_fault (replicate 262143 10) ≡ None) × (size_fault (replicate 262144 10) ≡ Some (too_many_lines 262145))
limit_on_lines = (refl, refl)

-- a span touches its first line, its last and those between, even where it ends at column 0
pub lines_from_first_to_last_are_touched :
    map (λ n. is_touched n (edit 1 0 3 0 [] ∷ edit 5 2 5 2 [] ∷ [])) (0 ∷ 1 ∷ 2 ∷ 3 ∷ 4 ∷ 5 ∷ 6 ∷ [])
    ≡ false ∷ true ∷ true ∷ true ∷ false ∷ true ∷ false ∷ []
lines_from_first_to_last_are_touched = refl
