-- What a cutter hands out next is the first of what it will hand out.
use Rattle.std.proofs.Common.{◌≡◌, List, [], ◌∷◌, refl, sym, ap, ◌∙◌, Bool, true, false}
use Rattle.std.specs.Prelude.{Some, None}
use Rattle.piece_io.specs.declared.line_cutter.Cut.{Cut}
use Rattle.piece_io.specs.declared.line_cutter.Cut.TheVariants.{Line, TooLong}
use Rattle.piece_io.specs.Cuts.{Cutting, first_cut, next_cut}
use Rattle.bracket_program.specs.Lines.{given, lines_given, last_of}

abbrev handed : Cut × Cutting → List Cut
handed p = p.0 ∷ given p.1

-- handing one out leaves the others
first-given : (cuts : List Cut) (ended : Bool) (p : Cut × Cutting) → first_cut cuts ended ≡ Some p
    → lines_given cuts ended ≡ handed p
first-given [] ended p e = cc
first-given (x ∷ []) false p e = cc
first-given (TooLong ∷ []) true p e = let same : (TooLong, record { cuts = Line [] ∷ []; ended = true }) ≡ p =
    cc in ap handed same
first-given (Line [] ∷ []) true p e = cc
first-given (Line (b ∷ bytes) ∷ []) true p e =
    let same : (Line (b ∷ bytes), record { cuts = Line [] ∷ []; ended = true }) ≡ p = cc in ap handed same
first-given (x ∷ y ∷ later) ended p e = let same : (x, record { cuts = y ∷ later; ended = ended }) ≡ p =
    cc in ap handed same

pub given-next : (c : Cutting) (p : Cut × Cutting) → next_cut c ≡ Some p → given c ≡ p.0 ∷ given p.1
given-next c p e = first-given c.cuts c.ended p e

first-none : (cuts : List Cut) (ended : Bool) → first_cut cuts ended ≡ None → lines_given cuts ended ≡ []
first-none [] ended e = refl
first-none (x ∷ []) false e = refl
first-none (TooLong ∷ []) true e = cc
first-none (Line [] ∷ []) true e = refl
first-none (Line (b ∷ bytes) ∷ []) true e = cc
first-none (x ∷ y ∷ later) ended e = cc

pub given-none : (c : Cutting) → next_cut c ≡ None → given c ≡ []
given-none c e = first-none c.cuts c.ended e

first-ended : (cuts : List Cut) (ended : Bool) (p : Cut × Cutting) → first_cut cuts ended ≡ Some p → p.1.ended ≡ ended
first-ended [] ended p e = cc
first-ended (x ∷ []) false p e = cc
first-ended (TooLong ∷ []) true p e = let same : (TooLong, record { cuts = Line [] ∷ []; ended = true }) ≡ p =
    cc in ap (λ q. q.1.ended) (sym same)
first-ended (Line [] ∷ []) true p e = cc
first-ended (Line (b ∷ bytes) ∷ []) true p e =
    let same : (Line (b ∷ bytes), record { cuts = Line [] ∷ []; ended = true }) ≡ p =
    cc in ap (λ q. q.1.ended) (sym same)
first-ended (x ∷ y ∷ later) ended p e = let same : (x, record { cuts = y ∷ later; ended = ended }) ≡ p =
    cc in ap (λ q. q.1.ended) (sym same)

pub ended-next : (c : Cutting) (p : Cut × Cutting) → next_cut c ≡ Some p → p.1.ended ≡ c.ended
ended-next c p e = first-ended c.cuts c.ended p e

-- the unfinished line stays while more may come
first-last : (cuts : List Cut) (p : Cut × Cutting) → first_cut cuts false ≡ Some p → last_of p.1.cuts ≡ last_of cuts
first-last [] p e = cc
first-last (x ∷ []) p e = cc
first-last (x ∷ y ∷ later) p e = let same : (x, record { cuts = y ∷ later; ended = false }) ≡ p =
    cc in ap (λ q. last_of q.1.cuts) (sym same)

pub last-next : (c : Cutting) (p : Cut × Cutting) → c.ended ≡ false → next_cut c ≡ Some p → last_of p.1.cuts
    ≡ last_of c.cuts
last-next c p going e = first-last c.cuts p (ap (first_cut c.cuts) (sym going) ∙ e)
