-- Where each mark has a row, the rows' marks are the marks.
use Rattle.std.proofs.Common.{◌≡◌, ℕ, ◌+◌, ◌≤◌, nat_le, Bool, true, false, if◌then◌else◌, List, [], ◌∷◌, ◌++◌, length, map}
use Rattle.std.proofs.Common.{Option, refl, sym, ap, ◌∙◌, arith}
use Rattle.text_pos.specs.declared.length.Pos.{Pos}
use Rattle.pairing_defs.specs.declared.Role.{Role}
use Rattle.pairing_defs.specs.declared.Role.TheVariants.{Opener, Closer}
use Rattle.pairing_defs.specs.declared.Mark.{Mark}
use Rattle.pairing_defs.specs.declared.Row.{Row}
use Rattle.pairing_defs.specs.Pairing.{Entry, Open, Placed, Removal, from_last, closer_row, rows_by, open_by, placed_from}
use Rattle.pairing_defs.specs.Pairing.{nothing_open, removal_of, row_of, rows_from, paired}

abbrev pub marks_of : List Row → List Mark
marks_of rows = map (λ r. r.mark) rows

-- ---- the rows of marks that are placed
mark_of_row : (last : Pos) (n : ℕ) (p : Placed) (role : Role) (removal : Option Removal)
    → (row_of last n p role removal).mark ≡ p.mark
mark_of_row last n p (Opener kind) removal = refl
mark_of_row last n p (Closer kinds) removal = refl

placed_marks : (last : Pos) (n : ℕ) (ps : List Placed) → marks_of (rows_from last n ps) ≡ map (λ p. p.mark) ps
placed_marks last n [] = refl
placed_marks last n (p ∷ ps) =
    ap (λ m. m ∷ marks_of (rows_from last (n + 1) ps)) (mark_of_row last n p p.mark.role (removal_of n (n + 1) ps))
    ∙ ap (λ l. p.mark ∷ l) (placed_marks last (n + 1) ps)

rows_long : (last : Pos) (n : ℕ) (ps : List Placed) → length (rows_from last n ps) ≡ length ps
rows_long last n [] = refl
rows_long last n (p ∷ ps) = let h = rows_long last (n + 1) ps in omega (arith, h)

-- ---- a mark has one row or none
data Ones (m : Mark) : List Placed → Type 0 where
  none : Ones m []
  one : (p : Placed) → p.mark ≡ m → Ones m (p ∷ [])

closer_mark : (s : Open) (m : Mark) (es : List Entry) → (closer_row s m es).mark ≡ m
closer_mark s m [] = refl
closer_mark s m (e ∷ es) = refl

opener_ones : (b : Bool) (p : Placed) (m : Mark) → p.mark ≡ m → Ones m (if b then [] else p ∷ [])
opener_ones true p m h = none
opener_ones false p m h = one p h

ones : (limit : ℕ) (s : Open) (m : Mark) (role : Role) → Ones m (rows_by limit s m role)
ones limit s m (Opener kind) = opener_ones (nat_le limit (length s.entries)) _ m refl
ones limit s m (Closer kinds) = one (closer_row s m (from_last kinds s.entries)) (closer_mark s m (from_last kinds s.entries))

some_more : (m : Mark) (ps : List Placed) (rest : List Placed) (n : ℕ) → Ones m ps → length rest ≤ n
    → length (ps ++ rest) ≤ n + 1
some_more m _ rest n none h = omega (arith, h)
some_more m _ rest n (one p is) h = omega (arith, h)

up_to_marks : (limit : ℕ) (s : Open) (ms : List Mark) → length (placed_from limit s ms) ≤ length ms
up_to_marks limit s [] = omega arith
up_to_marks limit s (m ∷ ms) =
    let h = some_more m (rows_by limit s m m.role) (placed_from limit (open_by limit s m.role) ms) (length ms)
    (ones limit s m m.role) (up_to_marks limit (open_by limit s m.role) ms) in
    omega (arith, h)

one_placed : (m : Mark) (ms : List Mark) (ps rest : List Placed) → Ones m ps → length rest ≤ length ms
    → length (ps ++ rest) ≡ length ms + 1 → (length rest ≡ length ms → map (λ p. p.mark) rest ≡ ms)
    → map (λ p. p.mark) (ps ++ rest) ≡ m ∷ ms
one_placed m ms _ rest none up long more = absurd (omega (arith, up, long))
one_placed m ms _ rest (one p is) up long more =
    ap (λ x. x ∷ map (λ q. q.mark) rest) is ∙ ap (λ l. m ∷ l) (more (omega (arith, long)))

all_placed : (limit : ℕ) (s : Open) (ms : List Mark) → length (placed_from limit s ms) ≡ length ms
    → map (λ p. p.mark) (placed_from limit s ms) ≡ ms
all_placed limit s [] long = refl
all_placed limit s (m ∷ ms) long =
    let rest = open_by limit s m.role in
    one_placed m ms (rows_by limit s m m.role) (placed_from limit rest ms) (ones limit s m m.role)
    (up_to_marks limit rest ms) (omega (arith, long)) (all_placed limit rest ms)

pub rows_have_marks : (limit : ℕ) (last : Pos) (ms : List Mark) → length (paired limit last ms) ≡ length ms
    → marks_of (paired limit last ms) ≡ ms
rows_have_marks limit last ms long =
    placed_marks last 0 (placed_from limit nothing_open ms)
    ∙ all_placed limit nothing_open ms (sym (rows_long last 0 (placed_from limit nothing_open ms)) ∙ long)
