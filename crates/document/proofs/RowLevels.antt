-- The level of each row is below the number of rows: no more brackets can be open than there are rows.
use Rattle.std.proofs.Common.{◌≡◌, ℕ, zero, suc, ◌+◌, ◌<◌, ◌≤◌, List, [], ◌∷◌, ◌++◌, All, length, Bool, true, false, cond, Option}
use Rattle.std.proofs.Common.{refl, arith, leb, count_by, IfOk, Result, Ok, Err}
use Rattle.text_pos.specs.declared.length.Pos.{Pos}
use Rattle.text_pos.specs.declared.kinds.Kinds.{Kinds}
use Rattle.text_pos.specs.KindSet.{has_kind}
use Rattle.pairing_defs.specs.declared.Role.{Role}
use Rattle.pairing_defs.specs.declared.Role.TheVariants.{Opener, Closer}
use Rattle.pairing_defs.specs.declared.Mark.{Mark}
use Rattle.pairing_defs.specs.declared.Row.{Row}
use Rattle.pairing_defs.specs.Pairing.{Entry, Open, Placed, Removal, from_last, left_open, rows_by, open_by, closer_row, placed_from, row_of, removal_of, rows_from, nothing_open, paired}
use Rattle.text_defs.specs.Place.{place_of}
use Rattle.document_defs.specs.TextRows.{Settings, rows_of, marks_in_text}
use Rattle.generator_defs.specs.Summary.{deepest, is_bad, summary}

-- ---- open entries

length-from_last-cond : (b : Bool) (e : Entry) (below rest : List Entry) → length rest ≤ length below
    → length (cond b (e ∷ below) rest) ≤ suc (length below)
length-from_last-cond true e below rest h = omega arith
length-from_last-cond false e below rest h = omega arith

length-from_last : (kinds : Kinds) (entries : List Entry) → length (from_last kinds entries) ≤ length entries
length-from_last kinds [] = omega arith
length-from_last kinds (e ∷ below) =
    length-from_last-cond (has_kind kinds e.kind) e below (from_last kinds below) (length-from_last kinds below)

length-left_open : (entries closed : List Entry) → length closed ≤ length entries → length (left_open entries closed) ≤ length entries
length-left_open entries [] h = omega arith
length-left_open entries (e ∷ below) h = omega arith

level-closer_row : (state : Open) (m : Mark) (closed : List Entry) → length closed ≤ length state.entries
    → (closer_row state m closed).level ≤ length state.entries
level-closer_row state m [] h = omega arith
level-closer_row state m (e ∷ below) h = omega arith

-- ---- marks that have rows

abbrev pub AreBelow : ℕ → List Placed → Type 0
AreBelow n [] = Unit {0}
AreBelow n (p ∷ ps) = (p.level < n) × AreBelow n ps

-- there are as many rows as entries at least
abbrev pub HasRows : Open → Type 0
HasRows state = length state.entries ≤ state.rows

-- what a mark does to the rest
pub record Goes (limit n : ℕ) (state : Open) (m : Mark) (role : Role) : Type 0 where
  pub rows : HasRows (open_by limit state role)
  pub more : state.rows + length (rows_by limit state m role) ≡ (open_by limit state role).rows
  pub below : (open_by limit state role).rows ≤ n → AreBelow n (rows_by limit state m role)

opener_goes : (limit n : ℕ) (state : Open) (m : Mark) (kind : ℕ) (b : Bool) → HasRows state
    → leb limit (length state.entries) ≡ b → Goes limit n state m (Opener kind)
opener_goes limit n state m kind true h e = record {
  rows = rw e h;
  more = rw e (omega arith);
  below = rw e (λ few. tt);
}
opener_goes limit n state m kind false h e = record {
  rows = rw e (omega arith);
  more = rw e (omega arith);
  below = rw e (λ few. (omega arith, tt));
}

goes : (limit n : ℕ) (state : Open) (m : Mark) (role : Role) → HasRows state → Goes limit n state m role
goes limit n state m (Opener kind) h = opener_goes limit n state m kind (leb limit (length state.entries)) h refl
goes limit n state m (Closer kinds) h =
    let closed = from_last kinds state.entries in
    let few : length closed ≤ length state.entries = length-from_last kinds state.entries in
    record {
      rows = omega (arith, length-left_open state.entries closed few);
      more = omega arith;
      below = λ within. (omega (arith, level-closer_row state m closed few), tt);
    }

AreBelow-append : (n : ℕ) (ps qs : List Placed) → AreBelow n ps → AreBelow n qs → AreBelow n (ps ++ qs)
AreBelow-append n [] qs h i = i
AreBelow-append n (p ∷ ps) qs h i = (h.0, AreBelow-append n ps qs h.1 i)

length-append-placed : (ps qs : List Placed) → length (ps ++ qs) ≡ length ps + length qs
length-append-placed [] qs = omega arith
length-append-placed (p ∷ ps) qs = omega (arith, length-append-placed ps qs)

placed_below : (limit n : ℕ) (state : Open) (marks : List Mark) → HasRows state
    → state.rows + length (placed_from limit state marks) ≤ n → AreBelow n (placed_from limit state marks)
placed_below limit n state [] h few = tt
placed_below limit n state (m ∷ ms) h few =
    let step : Goes limit n state m m.role = goes limit n state m m.role h in
    let next = open_by limit state m.role in
    let first = rows_by limit state m m.role in
    let rest = placed_from limit next ms in
    let many : length (first ++ rest) ≡ length first + length rest = length-append-placed first rest in
    AreBelow-append n first rest (step.below (omega (arith, step.more)))
    (placed_below limit n next ms step.rows (omega (arith, step.more)))

-- ---- rows

level-row_of : (end : Pos) (n : ℕ) (p : Placed) (role : Role) (removal : Option Removal) → (row_of end n p role removal).level ≡ p.level
level-row_of end n p (Opener kind) removal = refl
level-row_of end n p (Closer kinds) removal = refl

length-rows_from : (end : Pos) (k : ℕ) (ps : List Placed) → length (rows_from end k ps) ≡ length ps
length-rows_from end k [] = refl
length-rows_from end k (p ∷ ps) = omega (arith, length-rows_from end (k + 1) ps)

rows_below : (end : Pos) (k n : ℕ) (ps : List Placed) → AreBelow n ps → All (λ row. row.level < n) (rows_from end k ps)
rows_below end k n [] h i d l = absurd (omega arith)
rows_below end k n (p ∷ ps) h zero d l = omega (arith, h.0, level-row_of end k p p.mark.role (removal_of k (k + 1) ps))
rows_below end k n (p ∷ ps) h (suc i) d l = rows_below end (k + 1) n ps h.1 i d (omega arith)

pub levels_below : (limit : ℕ) (end : Pos) (marks : List Mark)
    → All (λ row. row.level < length (paired limit end marks)) (paired limit end marks)
levels_below limit end marks =
    let ps = placed_from limit nothing_open marks in
    rows_below end 0 (length (paired limit end marks)) ps
    (placed_below limit (length (paired limit end marks)) nothing_open marks (omega arith) (omega (arith, length-rows_from end 0 ps)))

-- rows that are those of a text
pub IfOk-levels : {E : Type 0} (r : Result (List Row) E) (settings : Settings) (text : List ℕ)
    → IfOk r (λ rows. rows ≡ rows_of settings text) → IfOk r (λ rows. All (λ row. row.level < length rows) rows)
IfOk-levels (Ok rows) settings text h =
    rw h (levels_below settings.limits.nesting (place_of text (length text)) (marks_in_text settings text))
IfOk-levels (Err fault) settings text h = tt

-- ---- what is told of rows

pub summary_by : (rows given : List Row) (lines count bad deep : ℕ) → given ≡ rows → count ≡ length given
    → bad ≡ count_by is_bad given → deep ≡ deepest given
    → record { lines = lines; rows = count; bad = bad; deepest = deep } ≡ summary lines rows
unfolding summary
summary_by rows given lines count bad deep same h i j = rw (h, i, j, same) refl
