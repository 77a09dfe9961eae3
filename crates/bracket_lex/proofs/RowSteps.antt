-- Rows are finished from the last to the first.
use Rattle.std.proofs.Common.{◌≡◌, ℕ, ◌+◌, ◌<◌, List, [], ◌∷◌, ◌++◌, length, map, take, drop, get_or, set, Option}
use Rattle.std.proofs.Common.{refl, arith, append_assoc, add-one}
use Rattle.std.proofs.lemmas.List.{length-take-le}
use Rattle.std.proofs.Math.Seq.{drop-cons, take-suc, set-append_seam, get_or-append_seam}
use Rattle.text_pos.specs.declared.length.Pos.{Pos}
use Rattle.pairing_defs.specs.declared.Row.{Row}
use Rattle.pairing_defs.specs.Pairing.{Removal, removal_by, removal_of, row_of, rows_from}
use Rattle.bracket_lex.specs.Pairing.{placed_of}

-- a list with the item k in its midst
set_at : {A : Type 0} (xs ys : List A) (k : ℕ) (x y : A) → length xs ≡ k → set (xs ++ x ∷ ys) k y ≡ xs ++ y ∷ ys
set_at xs ys k x y e = rw (← e) (set-append_seam xs x ys y)

get_at : {A : Type 0} (xs ys : List A) (k : ℕ) (x d : A) → length xs ≡ k → get_or (xs ++ x ∷ ys) k d ≡ x
get_at xs ys k x d e = rw (← e) (get_or-append_seam xs x ys d)

parted : {A : Type 0} (xs ys : List A) (n k : ℕ) (d : A) → n ≡ k + 1 → k < length xs → take n xs ++ ys
    ≡ take k xs ++ get_or xs k d ∷ ys
parted xs ys n k d e below = rw (e, add-one k, take-suc xs k d below) (append_assoc (take k xs) (get_or xs k d ∷ []) ys)

row_read : (end : Pos) (n k : ℕ) (from now : List Row) (d : Row) → n ≡ k + 1 → k < length from
    → now ≡ take n from ++ rows_from end n (map placed_of (drop n from))
    → get_or now k d ≡ get_or from k d
row_read end n k from now d e below is =
    rw (is, parted from (rows_from end n (map placed_of (drop n from))) n k d e below)
    (get_at (take k from) (rows_from end n (map placed_of (drop n from))) k (get_or from k d) d
    (length-take-le k from (omega arith)))

-- of rows that are finished from n on, row k is the next
pub row_step : (end : Pos) (n k : ℕ) (from now : List Row) (row d : Row) (removal : Option Removal) → n ≡ k + 1
    → k < length from
    → now ≡ take n from ++ rows_from end n (map placed_of (drop n from))
    → removal ≡ removal_of k n (map placed_of (drop n from))
    → row ≡ row_of end k (placed_of (get_or now k d)) (get_or now k d).mark.role removal
    → set now k row ≡ take k from ++ rows_from end k (map placed_of (drop k from))
row_step end n k from now row d removal e below is found made =
    let set_is : set now k row ≡ take k from ++ row ∷ rows_from end n (map placed_of (drop n from)) =
    rw (is, parted from (rows_from end n (map placed_of (drop n from))) n k d e below)
    (set_at (take k from) (rows_from end n (map placed_of (drop n from))) k (get_or from k d) row
    (length-take-le k from (omega arith))) in
    rw (set_is, made, row_read end n k from now d e below is, found, e, drop-cons from k d below, add-one k) refl

-- which closers there are for the rows before it
pub closers_step : (end : Pos) (n k m : ℕ) (from now : List Row) (d : Row) (old new : Option Removal) → n ≡ k + 1
    → k < length from
    → now ≡ take n from ++ rows_from end n (map placed_of (drop n from))
    → removal_of m n (map placed_of (drop n from)) ≡ old
    → new ≡ removal_by m k (placed_of (get_or now k d)) (get_or now k d).partner old
    → removal_of m k (map placed_of (drop k from)) ≡ new
closers_step end n k m from now d old new e below is before made =
    rw (made, row_read end n k from now d e below is, ← before, drop-cons from k d below, e, add-one k) refl
