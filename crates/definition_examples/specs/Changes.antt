-- Further worked examples of changes and of agreement, each named by what it shows.
use Rattle.std.specs.Prelude.{◌≡◌, [], ◌∷◌, map, true, false, refl}
use Rattle.std.proofs.Common.{sym, true≢false}
use Rattle.pairing_defs.specs.declared.Role.TheVariants.{Opener}
use Rattle.change_defs.specs.Changes.{starts_behind, are_in_order, fits_behind, all_fit}
use Rattle.change_defs.specs.Agreement.{moved, AreSame, Agree}
use Rattle.change_defs.specs.Examples.{far, in_line}

-- ---- order

-- two changes, of which the last ends at column 8 of the old text
pub a_change_starts_behind_the_last_of_two : map (starts_behind (in_line 0 1 2 5 ∷ in_line 0 6 2 0 ∷ []))
    (in_line 0 4 1 1 ∷ in_line 0 7 1 1 ∷ in_line 0 8 1 1 ∷ in_line 0 9 0 0 ∷ in_line 1 0 1 1 ∷ [])
    ≡ false ∷ false ∷ false ∷ true ∷ true ∷ []
a_change_starts_behind_the_last_of_two = refl

-- none, one, two with a column between, two of which the first gets longer, two that touch, and three of which the third
-- starts inside the second; what is put in may be longer than what goes, or shorter
pub changes_in_order : map are_in_order
    ([] ∷ (in_line 0 1 2 5 ∷ []) ∷ (in_line 0 1 2 0 ∷ in_line 0 4 0 1 ∷ []) ∷ (in_line 0 1 2 5 ∷ in_line 0 4 0 1 ∷ [])
    ∷ (in_line 0 1 2 0 ∷ in_line 0 3 0 1 ∷ []) ∷ (in_line 0 1 2 0 ∷ in_line 0 2 2 2 ∷ [])
    ∷ (in_line 0 1 2 0 ∷ in_line 0 4 3 0 ∷ in_line 0 6 1 0 ∷ []) ∷ (in_line 0 1 2 0 ∷ in_line 0 4 3 0 ∷ in_line 0 8 1 0 ∷ []) ∷ [])
    ≡ true ∷ true ∷ true ∷ true ∷ false ∷ false ∷ false ∷ true ∷ []
changes_in_order = refl

-- the old end passes the largest number of 32 bits, the new places don't
pub old_places_are_of_32_bits : map (fits_behind []) (in_line 0 4294967290 5 0 ∷ in_line 0 4294967290 6 0 ∷ [])
    ≡ true ∷ false ∷ []
old_places_are_of_32_bits = refl

-- eight columns are put in at first, and one goes: the next change lies 7 columns further than it did
pub a_change_is_moved_by_all_before_it : map (fits_behind (in_line 0 0 0 8 ∷ in_line 0 1 1 0 ∷ [])) (in_line 0 4294967288 0 0 ∷ in_line 0 4294967289 0 0 ∷ [])
    ≡ true ∷ false ∷ []
a_change_is_moved_by_all_before_it = refl

-- the first fits in both, and the second in the first of them alone
pub each_change_has_to_fit : map all_fit
    ((in_line 0 0 0 8 ∷ in_line 0 4294967287 0 0 ∷ []) ∷ (in_line 0 0 0 8 ∷ in_line 0 4294967288 0 0 ∷ []) ∷ [])
    ≡ true ∷ false ∷ []
each_change_has_to_fit = refl

-- ---- agreement

-- a mark of three columns, two columns further
pub a_moved_mark_is_as_long : moved (in_line 0 0 0 2 ∷ []) (record { at = record { line = 0; col = 3 }; to = 6; role = Opener 7 })
    ≡ record { at = record { line = 0; col = 5 }; to = 8; role = Opener 7 }
a_moved_mark_is_as_long = refl

-- of nine columns one is left: its end is an end of the change in both texts, though in the old one it lies inside
pub the_end_of_a_change_that_gets_shorter : AreSame (in_line 0 0 9 1 ∷ []) (far 0 9) (far 0 1)
the_end_of_a_change_that_gets_shorter = record { old_outside = refl; new_outside = refl; there = refl; back_there = refl }

-- the change starts at column 3, but the line of the new text has one character
pub a_change_starts_in_a_line_of_the_new_text :
    Agree (in_line 0 3 2 0 ∷ []) (record { marks = []; lines = 5 ∷ []; end = far 0 5 }) (record { marks = []; lines = 1 ∷ []; end = far 0 3 }) → ⊥
a_change_starts_in_a_line_of_the_new_text agree = true≢false (sym agree.starts)

-- nothing changes, but the line of the new text is shorter
pub places_outside_changes_lie_in_lines_of_the_new_text :
    Agree [] (record { marks = []; lines = 5 ∷ []; end = far 0 5 }) (record { marks = []; lines = 1 ∷ []; end = far 0 5 }) → ⊥
places_outside_changes_lie_in_lines_of_the_new_text agree = true≢false (sym (agree.places (far 0 5) refl refl))
