-- The bracket at a place and its partner, for rows as those of a text are. That it is so is this project's own.
use Rattle.std.specs.Prelude.{◌≡◌, ℕ, List, true, Some, slice_get}
use Rattle.text_pos.specs.declared.length.Pos.{Pos}
use Rattle.pairing_defs.specs.declared.Row.{Row}
use Rattle.answer_defs.specs.declared.pair_answer.Twin.{Twin}
use Rattle.answer_defs.specs.PairAnswers.{stands_at, match_in}

-- row i is there
abbrev pub IsRow : List Row → ℕ → Row → Type 0
IsRow rows i row = slice_get rows i ≡ Some row

-- a bracket stands where it starts, and at no place two of them stand
pub record AreApart (rows : List Row) : Type 0 where
  pub some : (i : ℕ) (row : Row) → IsRow rows i row → stands_at row.mark.at row ≡ true
  pub apart : (i j : ℕ) (row other : Row) (at : Pos) → IsRow rows i row → IsRow rows j other
      → stands_at at row ≡ true → stands_at at other ≡ true → i ≡ j

-- the row of a partner is there, and its partner is the first
abbrev pub AreMutual : List Row → Type 0
AreMutual rows = (i j : ℕ) (row : Row) → IsRow rows i row → row.partner ≡ Some j
    → (other : Row) × IsRow rows j other × (other.partner ≡ Some i)

-- the same two brackets the other way round
abbrev pub turned : Twin → Twin
turned t = record { first = t.second; second = t.first }

-- from where the partner starts, the partner's partner is the bracket
abbrev pub MatchingTwiceComesBack : Type 0
MatchingTwiceComesBack = (rows : List Row) (at : Pos) (t : Twin) → AreApart rows → AreMutual rows
    → match_in rows at ≡ Some t → match_in rows t.second.from ≡ Some (turned t)
