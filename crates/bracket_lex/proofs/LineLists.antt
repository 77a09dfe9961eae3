-- The last line of a text.
use Rattle.std.proofs.Common.{◌≡◌, suc, ◌-◌, ◌<◌, List, [], ◌∷◌, length, get_or, refl, arith}
use Rattle.bracket_marks.specs.MarkedLine.{MarkedLine, last_length}

pub last_length_is : (lines : List MarkedLine) (d : MarkedLine) → 0 < length lines → last_length lines
    ≡ (get_or lines (length lines - 1) d).length
last_length_is [] d h = absurd (omega arith)
last_length_is (line ∷ []) d h = refl
last_length_is (line ∷ next ∷ rest) d h =
    let later : last_length (next ∷ rest) ≡ (get_or (next ∷ rest) (length (next ∷ rest) - 1) d).length =
    last_length_is (next ∷ rest) d (omega arith) in
    let at : suc (suc (length rest)) - 1 ≡ suc (length rest) = omega arith in
    let before : suc (length rest) - 1 ≡ length rest = omega arith in
    rw (at) (rw before at later)
