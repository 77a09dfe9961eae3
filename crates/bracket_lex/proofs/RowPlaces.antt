-- Rows by their numbers: the row that a mark's row becomes, and the first closer behind a row.
use Rattle.std.proofs.Common.{◌≡◌, ℕ, zero, suc, ◌+◌, ◌<◌, ◌≤◌, nat_le, List, [], ◌∷◌, drop, Option, Some, None, refl}
use Rattle.std.proofs.Common.{sym, ap, ◌∙◌, arith, inl, inr}
use Rattle.std.specs.Prelude.{slice_get}
use Rattle.std.proofs.lemmas.Bool.{cases_Bool, leb-true, le-leb, lt-leb}
use Rattle.text_pos.specs.declared.length.Pos.{Pos}
use Rattle.pairing_defs.specs.declared.Row.{Row}
use Rattle.pairing_defs.specs.Pairing.{Placed, Removal, removal_by, removal_of, row_of, rows_from}

pub slice_get-drop : {A : Type 0} (xs : List A) (n i : ℕ) → slice_get (drop n xs) i ≡ slice_get xs (n + i)
slice_get-drop xs zero i = ap (slice_get xs) (let at : i ≡ 0 + i = omega arith in at)
slice_get-drop [] (suc n) i = refl
slice_get-drop (x ∷ xs) (suc n) i = slice_get-drop xs n i
    ∙ ap (slice_get (x ∷ xs)) (let at : suc (n + i) ≡ suc n + i = omega arith in at)

-- ---- the rows
-- what item i becomes, as row `at`
abbrev pub finished : Pos → ℕ → List Placed → ℕ → Placed → Row
finished end at ps i p = row_of end at p p.mark.role (removal_of at (at + 1) (drop (suc i) ps))

pub record RowAt (end : Pos) (at : ℕ) (ps : List Placed) (i : ℕ) (row : Row) : Type 0 where
  pub placed : Placed
  pub there : slice_get ps i ≡ Some placed
  pub is : row ≡ finished end at ps i placed

row_from : (end : Pos) (n at : ℕ) (ps : List Placed) (i : ℕ) (row : Row) → at ≡ n + i
    → slice_get (rows_from end n ps) i ≡ Some row → RowAt end at ps i row
row_from end n at [] i row e h = absurd (cc)
row_from end n at (p ∷ ps) zero row e h =
    let same : n ≡ at = omega arith in
    record {
      placed = p;
      there = refl;
      is = rw (← same)
          (let made : Some row ≡ Some (row_of end n p p.mark.role (removal_of n (n + 1) ps)) = sym h in cc);
    }
row_from end n at (p ∷ ps) (suc i) row e h =
    let r : RowAt end at ps i row = row_from end (n + 1) at ps i row (omega arith) h in
    record { placed = r.placed; there = r.there; is = r.is }

pub row_at : (end : Pos) (ps : List Placed) (i : ℕ) (row : Row) → slice_get (rows_from end 0 ps) i ≡ Some row
    → RowAt end i ps i row
row_at end ps i row h = row_from end 0 i ps i row (omega arith) h

from_place : (end : Pos) (n at : ℕ) (ps : List Placed) (i : ℕ) (p : Placed) → at ≡ n + i → slice_get ps i ≡ Some p
    → slice_get (rows_from end n ps) i ≡ Some (finished end at ps i p)
from_place end n at [] i p e h = absurd (cc)
from_place end n at (q ∷ ps) zero p e h =
    let same : n ≡ at = omega arith in
    let is : q ≡ p = cc in
    rw (is, same) refl
from_place end n at (q ∷ ps) (suc i) p e h = from_place end (n + 1) at ps i p (omega arith) h

pub row_made : (end : Pos) (ps : List Placed) (i : ℕ) (p : Placed) → slice_get ps i ≡ Some p
    → slice_get (rows_from end 0 ps) i ≡ Some (finished end i ps i p)
row_made end ps i p h = from_place end 0 i ps i p (omega arith) h

-- ---- the first closer behind a row
closed_here : (n next c : ℕ) (p : Placed) (later : Option Removal) → c ≤ n
    → removal_by n next p (Some c) later ≡ Some (record { row = next; start = p.mark.at; closes = c })
closed_here n next c p later within = rw (le-leb c n within) refl

pub closes_here : (n next c : ℕ) (p : Placed) (ps : List Placed) → p.closes ≡ Some c → c ≤ n
    → removal_of n next (p ∷ ps) ≡ Some (record { row = next; start = p.mark.at; closes = c })
closes_here n next c p ps is within = rw is (closed_here n next c p (removal_of n (next + 1) ps) within)

pub closes_none : (n next : ℕ) (p : Placed) (ps : List Placed) → p.closes ≡ None → removal_of n next (p ∷ ps)
    ≡ removal_of n (next + 1) ps
closes_none n next p ps is = rw is refl

pub closes_above : (n next c : ℕ) (p : Placed) (ps : List Placed) → p.closes ≡ Some c → n < c
    → removal_of n next (p ∷ ps) ≡ removal_of n (next + 1) ps
closes_above n next c p ps is above = rw (is, lt-leb c n above) refl

-- it is a row behind, which closes the row or one before it
pub record FirstCloser (n next : ℕ) (ps : List Placed) (r : Removal) : Type 0 where
  pub place : ℕ
  pub number : r.row ≡ next + place
  pub placed : Placed
  pub there : slice_get ps place ≡ Some placed
  pub closes : placed.closes ≡ Some r.closes
  pub start : r.start ≡ placed.mark.at
  pub within : r.closes ≤ n

further : (n next : ℕ) (p : Placed) (ps : List Placed) (r : Removal) → FirstCloser n (next + 1) ps r
    → FirstCloser n next (p ∷ ps) r
further n next p ps r f = record {
  place = suc f.place;
  number = omega arith;
  placed = f.placed;
  there = f.there;
  closes = f.closes;
  start = f.start;
  within = f.within;
}

first_by : (n next : ℕ) (p : Placed) (ps : List Placed) (r : Removal) (closes : Option ℕ) → p.closes ≡ closes
    → removal_by n next p closes (removal_of n (next + 1) ps) ≡ Some r
    → (removal_of n (next + 1) ps ≡ Some r → FirstCloser n (next + 1) ps r)
    → FirstCloser n next (p ∷ ps) r
first_by n next p ps r None is found later = further n next p ps r (later found)
first_by n next p ps r (Some c) is found later = elim (cases_Bool (nat_le c n)) [
  | inl here ↦
      let made : Some (record { row = next; start = p.mark.at; closes = c }) ≡ Some r = rw here at found in
      let same : r ≡ record { row = next; start = p.mark.at; closes = c } = cc in
      let closed : c ≡ r.closes = cc in
      let number : next ≡ r.row = cc in
      record {
        place = 0;
        number = omega arith;
        placed = p;
        there = refl;
        closes = rw (← closed) is;
        start = ap (λ x. x.start) same;
        within = omega (arith, leb-true c n here);
      }
  | inr other ↦ further n next p ps r (later (rw other at found))
]

pub first_closer : (n next : ℕ) (ps : List Placed) (r : Removal) → removal_of n next ps ≡ Some r
    → FirstCloser n next ps r
first_closer n next [] r found = absurd (cc)
first_closer n next (p ∷ ps) r found = first_by n next p ps r p.closes refl found (first_closer n (next + 1) ps r)

-- and no row before it closes the row or one before it
none_earlier_by : (n next at : ℕ) (p : Placed) (ps : List Placed) (r : Removal) (closes : Option ℕ)
    → removal_by n next p closes (removal_of n (next + 1) ps) ≡ Some r → next < at
    → (removal_of n (next + 1) ps ≡ Some r → r.row ≤ at)
    → r.row ≤ at
none_earlier_by n next at p ps r None found before later = later found
none_earlier_by n next at p ps r (Some c) found before later = elim (cases_Bool (nat_le c n)) [
  | inl here ↦
      let made : Some (record { row = next; start = p.mark.at; closes = c }) ≡ Some r = rw here at found in
      let number : next ≡ r.row = cc in
      omega arith
  | inr other ↦ later (rw other at found)
]

pub none_earlier : (n next at c : ℕ) (ps : List Placed) (k : ℕ) (p : Placed) (r : Removal) → slice_get ps k ≡ Some p
    → p.closes ≡ Some c → c ≤ n → at ≡ next + k
    → removal_of n next ps ≡ Some r → r.row ≤ at
none_earlier n next at c [] k p r there closes within e found = absurd (cc)
none_earlier n next at c (q ∷ ps) zero p r there closes within e found =
    let here : q.closes ≡ Some c = cc in
    let made = closes_here n next c q ps here within in
    let number : next ≡ r.row = cc in
    omega arith
none_earlier n next at c (q ∷ ps) (suc k) p r there closes within e found =
    none_earlier_by n next at q ps r q.closes found (omega arith)
    (none_earlier n (next + 1) at c ps k p r there closes within (omega arith))

none_closes_by : (n next c : ℕ) (q : Placed) (ps : List Placed) (closes : Option ℕ)
    → removal_by n next q closes (removal_of n (next + 1) ps) ≡ None → (removal_of n (next + 1) ps ≡ None → ⊥) → ⊥
none_closes_by n next c q ps None none later = later none
none_closes_by n next c q ps (Some closed) none later = elim (cases_Bool (nat_le closed n)) [
  | inl here ↦
      let r : Removal = record { row = next; start = q.mark.at; closes = closed } in
      let some : Some r ≡ None = rw here at none in
      cc
  | inr other ↦ later (rw other at none)
]

-- where there is none, no row behind closes the row or one before it
pub none_closes : (n next c : ℕ) (ps : List Placed) (k : ℕ) (p : Placed) → removal_of n next ps ≡ None
    → slice_get ps k ≡ Some p → p.closes ≡ Some c → c ≤ n → ⊥
none_closes n next c [] k p none there closes within = cc
none_closes n next c (q ∷ ps) zero p none there closes within =
    let here : q.closes ≡ Some c = cc in
    let made = closes_here n next c q ps here within in
    cc
none_closes n next c (q ∷ ps) (suc k) p none there closes within =
    none_closes_by n next c q ps q.closes none (λ later. none_closes n (next + 1) c ps k p later there closes within)
