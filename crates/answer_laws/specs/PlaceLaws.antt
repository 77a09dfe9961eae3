-- Answers about a place, whatever the rows are. That it is so is this project's own.
use Rattle.std.specs.Prelude.{◌≡◌, ℕ, ◌<◌, List, length, filter, true, false, Some, slice_get}
use Rattle.text_pos.specs.declared.length.Pos.{Pos}
use Rattle.pairing_defs.specs.declared.Row.{Row}
use Rattle.answer_defs.specs.declared.pair_answer.Twin.{Twin}
use Rattle.answer_defs.specs.PairAnswers.{encloses, encloses_closed, partner_of, twin, around_in, jump_in, level_in}
use Rattle.answer_defs.specs.PairAnswers.{reaches_lines}

-- a bracket starts at a place
pub record StartsAt (rows : List Row) (at : Pos) : Type 0 where
  pub place : ℕ
  pub row : Row
  pub there : slice_get rows place ≡ Some row
  pub starts : row.mark.at ≡ at

abbrev pub JumpsGoToBrackets : Type 0
JumpsGoToBrackets = (rows : List Row) (at to : Pos) → jump_in rows at ≡ Some to → StartsAt rows to

-- an opener and its closer are around a place, and no closed pair that opens later is
pub record IsNarrowest (rows : List Row) (at : Pos) (t : Twin) : Type 0 where
  pub place : ℕ
  pub opener : Row
  pub closer : Row
  pub there : slice_get rows place ≡ Some opener
  pub around : encloses_closed at opener ≡ true
  pub partner : partner_of rows opener ≡ Some closer
  pub both : t ≡ twin opener closer
  pub last : (k : ℕ) (row : Row) → place < k → slice_get rows k ≡ Some row → encloses_closed at row ≡ false

abbrev pub AroundIsTheNarrowest : Type 0
AroundIsTheNarrowest = (rows : List Row) (at : Pos) (t : Twin) → around_in rows at ≡ Some t → IsNarrowest rows at t

-- of the pairs that reach into the line of a place, those that are around the place are as many as its level
abbrev pub LevelsCountThePairs : Type 0
LevelsCountThePairs = (rows : List Row) (at : Pos)
    → level_in rows at ≡ length (filter (encloses at) (filter (reaches_lines at.line at.line) rows))
