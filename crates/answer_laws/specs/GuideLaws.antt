-- Where guides are, whatever the rows are. That it is so is this project's own.
use Rattle.std.specs.Prelude.{◌≡◌, ℕ, ◌<◌, ◌≤◌, List, true, Some, slice_get}
use Rattle.std.specs.Option.{is_some}
use Rattle.pairing_defs.specs.declared.Row.{Row}
use Rattle.answer_defs.specs.declared.pair_answer.GuideRow.{GuideRow}
use Rattle.answer_defs.specs.PairAnswers.{is_opener, guides_in}

-- a guide is that of an opener with a partner: of a line behind the opener's, up to where its inside ends, in the range
pub record LiesInPair (rows : List Row) (a b : ℕ) (g : GuideRow) : Type 0 where
  pub place : ℕ
  pub opener : Row
  pub there : slice_get rows place ≡ Some opener
  pub opens : is_opener opener ≡ true
  pub closed : is_some opener.partner ≡ true
  pub behind : opener.mark.at.line < g.line
  pub within : g.line ≤ opener.inner.line
  pub from : a ≤ g.line
  pub to : g.line ≤ b
  pub level : g.level ≡ opener.level

abbrev pub GuidesLieInPairs : Type 0
GuidesLieInPairs = (tab : ℕ) (lines : List (List ℕ)) (rows : List Row) (a b k : ℕ) (g : GuideRow)
    → slice_get (guides_in tab lines rows a b) k ≡ Some g → LiesInPair rows a b g
