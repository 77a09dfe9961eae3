-- Worked examples of changes, of clear marks and of fresh marks, each named by what it shows.
use Rattle.std.specs.Prelude.{◌≡◌, ℕ, List, [], ◌∷◌, map, codes, true, false, Some, None, refl}
use Rattle.std.specs.List.{list_all}
use Rattle.text_pos.specs.declared.length.Length.{Length}
use Rattle.pairing_defs.specs.declared.Mark.{Mark}
use Rattle.pairing_defs.specs.declared.Role.TheVariants.{Opener}
use Rattle.pairing_defs.specs.Marks.{usual_texts, text_marks}
use Rattle.pairing_defs.specs.OnLiterals.{words_on_literals}
use Rattle.pairing_defs.specs.Examples.{rows_at}
use Rattle.change_defs.specs.declared.Change.{Change}
use Rattle.change_defs.specs.declared.Placed.{Placed}
use Rattle.change_defs.specs.Changes.{first_joint, placed_at, placed, back, starts_behind, fits_behind, is_inside, image}
use Rattle.change_defs.specs.Changes.{before, distance}
use Rattle.change_defs.specs.Agreement.{is_within, is_uncut, moved, clear_old, clear_new, AreSame}
use Rattle.change_defs.specs.FreshMarks.{fresh}

-- so many line ends, and so many characters behind the last
abbrev pub far : ℕ → ℕ → Length
far lines cols = record { lines = lines; cols = cols }

-- a piece of a line is replaced by a piece of a line
abbrev pub in_line : (line col old new : ℕ) → Change
in_line line col old new = record { start = far line col; old = far 0 old; new = far 0 new }

-- the marks of lines with the usual brackets
abbrev pub marks : List (List ℕ) → List Mark
marks lines = text_marks usual_texts 20000 lines

-- how many marks are fresh: the rows of the old lines, and the marks of the new ones
abbrev pub fresh_of : List (List ℕ) → List (List ℕ) → List Change → ℕ
fresh_of old new changes = fresh (rows_at 200 old) (marks new) changes

-- ---- images

abbrev pub starts : Placed → Length × Length
starts p = (p.from.old, p.from.new)

pub changes_move_those_behind_them : map starts (placed (in_line 0 1 2 5 ∷ in_line 0 4 0 1 ∷ in_line 0 6 1 0 ∷ []))
    ≡ (far 0 1, far 0 1) ∷ (far 0 4, far 0 7) ∷ (far 0 6, far 0 10) ∷ []
changes_move_those_behind_them = refl

pub a_place_behind_a_change_moves_with_its_end : map (image (in_line 0 1 2 5 ∷ in_line 0 4 0 1 ∷ [])) (far 0 0 ∷ far 0 1 ∷ far 0 3 ∷ far 0 5 ∷ far 1 5 ∷ [])
    ≡ far 0 0 ∷ far 0 1 ∷ far 0 6 ∷ far 0 9 ∷ far 1 5 ∷ []
a_place_behind_a_change_moves_with_its_end = refl

-- a line end is put into line 2 at column 3: what is behind it there stands in line 3 and has fewer columns before it
pub a_line_end_begins_columns_anew : map (image (record { start = far 2 3; old = far 0 0; new = far 1 0 } ∷ [])) (far 2 2 ∷ far 2 3 ∷ far 2 7 ∷ far 4 7 ∷ [])
    ≡ far 2 2 ∷ far 3 0 ∷ far 3 4 ∷ far 5 7 ∷ []
a_line_end_begins_columns_anew = refl

-- the line end of line 0, which has 4 characters, is deleted
pub where_a_line_end_goes_lines_join : map (image (record { start = far 0 4; old = far 1 0; new = far 0 0 } ∷ [])) (far 0 4 ∷ far 1 0 ∷ far 1 2 ∷ far 2 2 ∷ [])
    ≡ far 0 4 ∷ far 0 4 ∷ far 0 6 ∷ far 1 2 ∷ []
where_a_line_end_goes_lines_join = refl

pub what_is_inserted_at_a_place_stands_before_it : (image (in_line 0 2 0 3 ∷ []) (far 0 2)) ≡ far 0 5
what_is_inserted_at_a_place_stands_before_it = refl

pub the_ends_of_a_change_lie_not_inside : map (is_inside (placed (in_line 0 1 3 1 ∷ []))) (far 0 1 ∷ far 0 2 ∷ far 0 3 ∷ far 0 4 ∷ far 1 2 ∷ [])
    ≡ false ∷ true ∷ true ∷ false ∷ false ∷ []
the_ends_of_a_change_lie_not_inside = refl

-- ---- back to the old text

-- of two characters five are made: their end is the end of the two, their start is the start
pub a_new_end_is_the_old_end : map (before (in_line 0 1 2 5 ∷ in_line 0 4 0 1 ∷ [])) (far 0 0 ∷ far 0 1 ∷ far 0 2 ∷ far 0 5 ∷ far 0 6 ∷ far 0 7 ∷ far 0 8 ∷ far 0 9 ∷ [])
    ≡ Some (far 0 0) ∷ Some (far 0 1) ∷ None ∷ None ∷ Some (far 0 3) ∷ Some (far 0 4) ∷ Some (far 0 4) ∷ Some (far 0 5) ∷ []
a_new_end_is_the_old_end = refl

-- both the start and the end of the deleted piece are at the place, and the end is taken
pub behind_what_is_deleted_the_old_end_is_taken : before (in_line 0 1 3 0 ∷ []) (far 0 1) ≡ Some (far 0 4)
behind_what_is_deleted_the_old_end_is_taken = refl

pub an_old_place_is_of_32_bits : map (before (in_line 0 1 3 0 ∷ [])) (far 0 4294967292 ∷ far 0 4294967293 ∷ far 1 4294967295 ∷ [])
    ≡ Some (far 0 4294967295) ∷ None ∷ Some (far 1 4294967295) ∷ []
an_old_place_is_of_32_bits = refl

-- a change that ends at the place is behind it no more; one that starts there is
pub the_next_change_ends_behind_the_place : map (distance (in_line 0 1 2 5 ∷ in_line 1 4 1 0 ∷ in_line 1 6 0 1 ∷ [])) (far 0 0 ∷ far 0 1 ∷ far 0 6 ∷ far 1 3 ∷ far 1 4 ∷ far 1 5 ∷ far 1 6 ∷ [])
    ≡ Some (far 0 1) ∷ Some (far 0 0) ∷ Some (far 1 4) ∷ Some (far 0 1) ∷ Some (far 0 1) ∷ Some (far 0 0) ∷ None ∷ []
the_next_change_ends_behind_the_place = refl

-- ---- order

-- a change that starts at the end of the one before is part of it
pub a_change_starts_behind_the_one_before : map (starts_behind (in_line 0 1 2 5 ∷ [])) (in_line 0 2 2 2 ∷ in_line 0 3 1 1 ∷ in_line 0 4 0 0 ∷ [])
    ≡ false ∷ false ∷ true ∷ []
a_change_starts_behind_the_one_before = refl

-- the new columns pass the largest number of 32 bits, the old ones don't
pub changes_are_of_32_bits_in_both_texts : map (fits_behind (in_line 0 0 0 8 ∷ [])) (in_line 0 4294967287 0 0 ∷ in_line 0 4294967288 0 0 ∷ in_line 0 4294967280 8 16 ∷ [])
    ≡ true ∷ false ∷ false ∷ []
changes_are_of_32_bits_in_both_texts = refl

-- ---- clear marks

-- `a(b` and a change of `b`, of `a`, of nothing behind `(`, of nothing before it, and of `(` itself
pub a_mark_that_touches_a_change_is_clear_of_it : map (λ c. clear_old (c ∷ []) (marks (codes "a(b" ∷ [])))
    (in_line 0 2 1 0 ∷ in_line 0 0 1 2 ∷ in_line 0 2 0 1 ∷ in_line 0 1 0 1 ∷ in_line 0 1 1 1 ∷ [])
    ≡ marks (codes "a(b" ∷ []) ∷ marks (codes "a(b" ∷ []) ∷ marks (codes "a(b" ∷ []) ∷ marks (codes "a(b" ∷ []) ∷ [] ∷ []
unfolding words_on_literals
a_mark_that_touches_a_change_is_clear_of_it = refl

-- `a(b`, where `(b` becomes nothing and where `a(` does: the mark is within the change; where `b` and a line end do, it
-- is not
pub a_mark_is_within_a_change_that_holds_it : map (λ c. map (is_within (placed_at first_joint c)) (marks (codes "a(b" ∷ [])))
    (in_line 0 1 2 0 ∷ in_line 0 0 2 0 ∷ record { start = far 0 2; old = far 1 0; new = far 0 0 } ∷ [])
    ≡ (true ∷ []) ∷ (true ∷ []) ∷ (false ∷ []) ∷ []
unfolding words_on_literals
a_mark_is_within_a_change_that_holds_it = refl

-- a mark of three characters, of which the first, and the middle, is changed
pub a_change_inside_a_mark_cuts_it : map (λ c. is_uncut (placed (c ∷ [])) (record { at = record { line = 0; col = 2 }; to = 5; role = Opener 0 }))
    (in_line 0 2 1 1 ∷ in_line 0 3 1 1 ∷ in_line 0 2 3 0 ∷ in_line 0 5 1 0 ∷ [])
    ≡ false ∷ false ∷ true ∷ true ∷ []
a_change_inside_a_mark_cuts_it = refl

-- ---- texts before and after an edit

-- what holds of the marks of two texts that agree: none is cut, and those that are clear are the same
abbrev pub marks_agree : List (List ℕ) → List (List ℕ) → List Change → Type 0
marks_agree old new changes = (list_all (is_uncut (placed changes)) (marks old) ≡ true)
    × (list_all (is_uncut (back changes)) (marks new) ≡ true)
    × (map (moved changes) (clear_old changes (marks old)) ≡ clear_new changes (marks new))

abbrev pub two_lines : List (List ℕ)
two_lines = codes "{" ∷ codes "(}" ∷ []

-- the first line loses its brace, so what was a pair is none
pub a_removed_opener_leaves_the_marks_below : marks_agree two_lines ([] ∷ codes "(}" ∷ []) (in_line 0 0 1 0 ∷ [])
unfolding words_on_literals
a_removed_opener_leaves_the_marks_below = (refl, refl, refl)

pub a_removed_opener_makes_its_pair_fresh : fresh_of two_lines ([] ∷ codes "(}" ∷ []) (in_line 0 0 1 0 ∷ []) ≡ 2
unfolding words_on_literals
a_removed_opener_makes_its_pair_fresh = refl

-- an empty line above a pair gets an opener
pub an_inserted_opener_leaves_the_marks_below : marks_agree ([] ∷ codes "()" ∷ []) (codes "[" ∷ codes "()" ∷ []) (in_line 0 0 0 1 ∷ [])
unfolding words_on_literals
an_inserted_opener_leaves_the_marks_below = (refl, refl, refl)

pub an_opener_above_a_pair_is_fresh_alone : fresh_of ([] ∷ codes "()" ∷ []) (codes "[" ∷ codes "()" ∷ []) (in_line 0 0 0 1 ∷ []) ≡ 1
unfolding words_on_literals
an_opener_above_a_pair_is_fresh_alone = refl

-- the pair touches the change
pub an_opener_right_before_a_pair_makes_it_fresh : fresh_of (codes "()" ∷ []) (codes "[()" ∷ []) (in_line 0 0 0 1 ∷ []) ≡ 3
unfolding words_on_literals
an_opener_right_before_a_pair_makes_it_fresh = refl

abbrev pub three_pairs : List (List ℕ)
three_pairs = codes "()" ∷ codes "()" ∷ codes "()" ∷ []

abbrev pub a_letter_in_the_second : List (List ℕ)
a_letter_in_the_second = codes "()" ∷ codes "(a)" ∷ codes "()" ∷ []

-- a letter is put between the brackets of the second line: both are clear, and the second moves
pub brackets_around_a_change_are_clear : marks_agree three_pairs a_letter_in_the_second (in_line 1 1 0 1 ∷ [])
unfolding words_on_literals
brackets_around_a_change_are_clear = (refl, refl, refl)

pub a_change_inside_a_pair_makes_it_alone_fresh : fresh_of three_pairs a_letter_in_the_second (in_line 1 1 0 1 ∷ []) ≡ 2
unfolding words_on_literals
a_change_inside_a_pair_makes_it_alone_fresh = refl

-- the whole line as one change: its marks aren't clear, and the pairs above and below don't touch it
pub a_whole_line_makes_its_marks_fresh_twice : fresh_of three_pairs a_letter_in_the_second (in_line 1 0 2 3 ∷ []) ≡ 4
unfolding words_on_literals
a_whole_line_makes_its_marks_fresh_twice = refl

pub a_pair_around_a_change_is_fresh : fresh_of (codes "{" ∷ codes "()" ∷ codes "}" ∷ []) (codes "{" ∷ codes "()x" ∷ codes "}" ∷ []) (in_line 1 2 0 1 ∷ []) ≡ 4
unfolding words_on_literals
a_pair_around_a_change_is_fresh = refl

-- two changes meet the one pair, which counts once
pub a_pair_that_meets_two_changes_counts_once : fresh_of (codes "(ab)" ∷ []) (codes "(xaby)" ∷ []) (in_line 0 1 0 1 ∷ in_line 0 3 0 1 ∷ []) ≡ 2
unfolding words_on_literals
a_pair_that_meets_two_changes_counts_once = refl

pub without_changes_nothing_is_fresh : fresh_of three_pairs three_pairs [] ≡ 0
unfolding words_on_literals
without_changes_nothing_is_fresh = refl

pub the_ends_of_texts_are_images_of_each_other : AreSame (in_line 1 1 0 1 ∷ in_line 2 0 0 3 ∷ []) (far 2 2) (far 2 5)
the_ends_of_texts_are_images_of_each_other = record { old_outside = refl; new_outside = refl; there = refl; back_there = refl }
