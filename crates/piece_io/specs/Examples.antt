-- Worked examples of lines, of counts and of what the objects in memory move, each named by what it shows.
use Rattle.std.specs.Prelude.{◌≡◌, ◌-◌, ◌^◌, [], ◌∷◌, true, false, Some, None, refl}
use Rattle.piece_io.specs.Told.{risen}
use Rattle.piece_io.specs.Cuts.{cuts_of, whole_cuts, all_cuts, next_cut, to_come}
use Rattle.piece_io.specs.Mem.{SourceState, SinkState, read_size, after_read, write_size, after_failed_write}
use Rattle.piece_io.specs.declared.line_cutter.Cut.TheVariants.{Line, TooLong}

pub no_byte_is_no_line : all_cuts [] ≡ []
no_byte_is_no_line = refl

pub an_lf_alone_ends_an_empty_line : all_cuts (10 ∷ []) ≡ Line [] ∷ []
an_lf_alone_ends_an_empty_line = refl

pub the_last_line_needs_no_lf : all_cuts (97 ∷ 10 ∷ 98 ∷ []) ≡ Line (97 ∷ []) ∷ Line (98 ∷ []) ∷ []
the_last_line_needs_no_lf = refl

pub a_line_waits_for_its_lf : whole_cuts (97 ∷ 10 ∷ 98 ∷ []) ≡ Line (97 ∷ []) ∷ []
a_line_waits_for_its_lf = refl

pub a_cr_stays_in_its_line : all_cuts (97 ∷ 13 ∷ 10 ∷ 13 ∷ 98 ∷ 10 ∷ []) ≡ Line (97 ∷ 13 ∷ []) ∷ Line (13 ∷ 98 ∷ []) ∷ []
a_cr_stays_in_its_line = refl

pub empty_lines_count : all_cuts (10 ∷ 10 ∷ 97 ∷ 10 ∷ []) ≡ Line [] ∷ Line [] ∷ Line (97 ∷ []) ∷ []
empty_lines_count = refl

pub an_unfinished_line_is_not_handed_out : next_cut (record { cuts = cuts_of (97 ∷ []); ended = false }) ≡ None
an_unfinished_line_is_not_handed_out = refl

pub an_unfinished_line_is_handed_out_at_the_end :
    next_cut (record { cuts = cuts_of (97 ∷ []); ended = true }) ≡ Some (Line (97 ∷ []), record { cuts = Line [] ∷ []; ended = true })
an_unfinished_line_is_handed_out_at_the_end = refl

pub nothing_is_handed_out_behind_the_last_lf : to_come (record { cuts = cuts_of (97 ∷ 10 ∷ []); ended = true }) ≡ Line (97 ∷ []) ∷ []
nothing_is_handed_out_behind_the_last_lf = refl

pub a_line_that_is_too_long_is_handed_out_once :
    to_come (record { cuts = TooLong ∷ Line (97 ∷ []) ∷ Line [] ∷ []; ended = true }) ≡ TooLong ∷ Line (97 ∷ []) ∷ []
a_line_that_is_too_long_is_handed_out_once = refl

pub a_count_rises_by_one : risen 7 ≡ 8
a_count_rises_by_one = refl

pub a_count_stays_at_its_end : risen (2 ^ 64 - 1) ≡ 2 ^ 64 - 1
a_count_stays_at_its_end = refl

-- a source with three bytes left, of which each read gives two at most
abbrev pub three_left : SourceState
three_left = record { left = 1 ∷ 2 ∷ 3 ∷ []; piece = 2; calls = record { failing = []; made = 0 }; faults = 0 }

pub a_read_gives_a_piece : read_size three_left 9 ≡ 2
a_read_gives_a_piece = refl

pub a_read_gives_what_there_is_room_for : read_size three_left 1 ≡ 1
a_read_gives_what_there_is_room_for = refl

pub a_read_gives_what_is_left : read_size (after_read three_left 2) 9 ≡ 1
a_read_gives_what_is_left = refl

-- a sink that holds two bytes and has room for one more
abbrev pub nearly_full : SinkState
nearly_full = record { held = 1 ∷ 2 ∷ []; room = 3; piece = 2; calls = record { failing = 2 ∷ []; made = 1 }; faults = 5 }

pub a_write_takes_what_there_is_room_for : write_size nearly_full 9 ≡ 1
a_write_takes_what_there_is_room_for = refl

pub a_failed_write_is_counted :
    after_failed_write nearly_full ≡ record { held = 1 ∷ 2 ∷ []; room = 3; piece = 2; calls = record { failing = 2 ∷ []; made = 2 }; faults = 6 }
a_failed_write_is_counted = refl
