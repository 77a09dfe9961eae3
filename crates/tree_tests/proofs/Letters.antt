-- Letters of one line have runs that fit.
use Rattle.std.proofs.Common.{◌≡◌, ℕ, zero, suc, ◌+◌, ◌<◌, ◌^◌, ◌∷◌, replicate, refl, ap}
use Rattle.std.proofs.Common.{arith}
use Rattle.tree_defs.specs.Shape.{no_length, all_leaves, EndsFit, RunsFit}
use Rattle.tree_defs.proofs.Lengths.{ends_runs}
use Rattle.tree_tests.specs.Columns.{letter}

pub letter_leaves : (n : ℕ) → all_leaves (replicate n letter) ≡ replicate n letter
letter_leaves zero = refl
letter_leaves (suc n) = ap (λ l. letter ∷ l) (letter_leaves n)

letters_end : (n col : ℕ) → col + n < 2 ^ 32 → EndsFit (record { lines = 0; cols = col }) (replicate n letter)
letters_end zero col h = tt
letters_end (suc n) col h = ((omega arith, omega arith), letters_end n (col + 1) (omega arith))

pub letters_fit : (n : ℕ) → n < 2 ^ 32 → RunsFit (replicate n letter)
letters_fit n h = ends_runs no_length (replicate n letter) (omega arith, omega arith) (letters_end n 0 (omega arith))
