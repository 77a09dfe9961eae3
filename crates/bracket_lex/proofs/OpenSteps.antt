-- What one mark adds to the rows, and then all marks of a line.
use Rattle.std.proofs.Common.{◌≡◌, ℕ, ◌+◌, ◌<◌, ◌≤◌, Bool, true, false, List, [], ◌∷◌, ◌++◌, length, map, reverse}
use Rattle.std.proofs.Common.{take, drop, get_or, nat_le, Some, None, refl, ◌∙◌, arith, append_assoc, add-one}
use Rattle.std.proofs.Common.{if◌then◌else◌}
use Rattle.std.proofs.lemmas.List.{length-reverse, map-append, length-take-le}
use Rattle.std.proofs.lemmas.Bool.Decides.{nat_tests}
use Rattle.std.proofs.Math.Seq.{drop-cons}
use Rattle.text_pos.specs.declared.kinds.Kinds.{Kinds}
use Rattle.pairing_defs.specs.declared.LineMark.{LineMark}
use Rattle.pairing_defs.specs.declared.Mark.{Mark}
use Rattle.pairing_defs.specs.declared.Role.{Role}
use Rattle.pairing_defs.specs.declared.Role.TheVariants.{Opener, Closer}
use Rattle.pairing_defs.specs.declared.Row.{Row}
use Rattle.pairing_defs.specs.Marks.{on_line}
use Rattle.pairing_defs.specs.Pairing.{Entry, Open, Placed, of_kind, from_last, opener_row, closer_row, rows_by}
use Rattle.pairing_defs.specs.Pairing.{open_by, placed_from, open_after}
use Rattle.bracket_lex.specs.Pairing.{Progress, open_in, placed_of}
use Rattle.bracket_lex.proofs.Stack.{of_kind-reverse}

within : (limit n : ℕ) → n < limit → nat_le limit n ≡ false
within limit n h = grind (arith, nat_tests)

-- an opener below the limit
pub opener_adds : (limit : ℕ) (rows new : List Row) (entries : List Entry) (mark : Mark) (kind level own : ℕ)
    (row : Row)
    → new ≡ rows ++ row ∷ [] → length entries < limit → level ≡ length entries → own ≡ of_kind kind entries
    → placed_of row ≡ record { mark = mark; level = level; own = own; closes = None }
    → map placed_of new ≡ map placed_of rows ++ opener_row limit
    (record { rows = length (map placed_of rows); entries = reverse entries }) mark kind
opener_adds limit rows new entries mark kind level own row e below at same is =
    rw (
      e,
      map-append placed_of rows (row ∷ []),
      is,
      at,
      same,
      length-reverse entries,
      of_kind-reverse kind entries,
      within limit (length entries) below,
    ) refl

-- a closer of an open entry
pub closer_adds : (rows new : List Row) (entries : List Entry) (mark : Mark) (kinds : Kinds) (k own : ℕ) (row : Row)
    (entry : Entry)
    → new ≡ rows ++ row ∷ [] → k < length entries
    → from_last kinds (reverse entries) ≡ entry ∷ reverse (take k entries)
    → own ≡ of_kind entry.kind (take k entries)
    → placed_of row ≡ record { mark = mark; level = k; own = own; closes = Some entry.row }
    → map placed_of new ≡ map placed_of rows ++ closer_row
    (record { rows = length (map placed_of rows); entries = reverse entries }) mark
    (from_last kinds (reverse entries)) ∷ []
closer_adds rows new entries mark kinds k own row entry e below found same is =
    let level : length (reverse (take k entries)) ≡ k =
    length-reverse (take k entries) ∙ length-take-le k entries (omega arith) in
    rw (e, map-append placed_of rows (row ∷ []), is, same, found, level, of_kind-reverse entry.kind (take k entries))
    refl

opener_row-short : (b : Bool) (p : Placed) → length (if b then [] else (p ∷ [])) ≤ 1
opener_row-short true p = omega arith
opener_row-short false p = omega arith

-- a mark has at most one row
pub rows_by-short : (limit : ℕ) (state : Open) (m : Mark) (role : Role) → length (rows_by limit state m role) ≤ 1
rows_by-short limit state m (Opener kind) =
    opener_row-short (nat_le limit (length state.entries))
    (record { mark = m; level = length state.entries; own = of_kind kind state.entries; closes = None })
rows_by-short limit state m (Closer kinds) = omega arith

-- the next mark of a line
pub line_rows : (limit n i : ℕ) (old new : Progress) (marks : List LineMark) (d : LineMark)
    → i < length marks
    → new.rows ≡ old.rows ++ rows_by limit (open_in old) (on_line n (get_or marks i d)) (get_or marks i d).role
    → open_in new ≡ open_by limit (open_in old) (get_or marks i d).role
    → new.rows ++ placed_from limit (open_in new) (map (on_line n) (drop (i + 1) marks))
    ≡ old.rows ++ placed_from limit (open_in old) (map (on_line n) (drop i marks))
line_rows limit n i old new marks d below rows opened =
    rw (drop-cons marks i d below, add-one i, opened, rows) (append_assoc old.rows _ _)

pub line_open : (limit n i : ℕ) (old new : Progress) (marks : List LineMark) (d : LineMark)
    → i < length marks
    → open_in new ≡ open_by limit (open_in old) (get_or marks i d).role
    → open_after limit (open_in new) (map (on_line n) (drop (i + 1) marks))
    ≡ open_after limit (open_in old) (map (on_line n) (drop i marks))
line_open limit n i old new marks d below opened = rw (drop-cons marks i d below, add-one i, opened) refl
