-- Lines that aren't there have no characters.
use Rattle.std.proofs.Common.{◌≡◌, ◌<◌, ◌≤◌, ◌+◌, ◌-◌, ◌++◌, ℕ, zero, suc, List, [], ◌∷◌, length, refl, ap, sym, ◌∙◌}
use Rattle.std.proofs.Common.{append_assoc}
use native.Mathlib.Omega.{arith}
use Rattle.std.specs.List.{flat_map, range_with_len}
use Rattle.text_defs.specs.Text.{line_in}

pub line_in-past : (lines : List (List ℕ)) (n : ℕ) → length lines ≤ n → line_in lines n ≡ []
line_in-past [] n past = refl
line_in-past (line ∷ lines) zero past = absurd (omega arith)
line_in-past (line ∷ lines) (suc n) past = line_in-past lines n (omega arith)

-- what a range gives is what its first line gives, and then what the rest gives
pub flat_map-range : {X : Type 0} (f : ℕ → List X) (line end : ℕ) → line < end
    → flat_map f (range_with_len line (end - line))
    ≡ f line ++ flat_map f (range_with_len (line + 1) (end - (line + 1)))
flat_map-range f line end before = rw (left-suc line end before)
  where
    left-suc : (line end : ℕ) → line < end → end - line ≡ suc (end - (line + 1))
    left-suc line end before = omega arith

-- with what a line gives added, the lines behind it are left
pub adds-line : {X : Type 0} (f : ℕ → List X) (line end : ℕ) (all found more : List X) → line < end
    → found ++ flat_map f (range_with_len line (end - line)) ≡ all → more ≡ found ++ f line
    → more ++ flat_map f (range_with_len (line + 1) (end - (line + 1))) ≡ all
adds-line f line end all found more before kept added =
    rw (added) (append_assoc found _ _ ∙ ap (λ rest. found ++ rest) (sym (flat_map-range f line end before)) ∙ kept)
