-- An old tree that is read, and what leads back to its text.
use Rattle.std.specs.Prelude.{◌≡◌, ℕ, ◌+◌, ◌≤◌, List, length, count_by, Some}
use Rattle.bracket_marks.specs.MarkedLine.{MarkedLine}
use Rattle.mark_source.specs.Source.{Source, ahead}
use Rattle.text_pos.specs.declared.length.Length.{Length}
use Rattle.text_pos.specs.Lengths.{IsLess}
use Rattle.tree_defs.specs.Tree.{Tree}
use Rattle.change_defs.specs.declared.Change.{Change}
use Rattle.change_defs.specs.Changes.{before}
use Rattle.reuse_parser.specs.declared.old.Old.{Old}
use Rattle.reuse_defs.specs.Since.{Since}
use Rattle.reuse_parser.specs.Reusing.{AreShort}
use Rattle.reuse_parser.specs.Counting.{IsCalm, IsOutside, NoneSettled}
use Rattle.reuse_defs.specs.Settled.{is_unsettled}

-- no old place of the new places from one on lies before what was read
abbrev pub IsReady : Old → Length → Type 0
IsReady old at = (to from : Length) → ¬ IsLess to at → before old.mapper to ≡ Some from → ¬ IsLess from old.reader.reached

-- the same tree and the same changes
pub record IsSame (old new : Old) : Type 0 where
  pub tree : new.reader.tree ≡ old.reader.tree
  pub changes : new.mapper ≡ old.mapper

-- the old tree stands for old marks that agree with those of new lines, which are shorter than 2 ^ 32
pub record IsSince (limit : ℕ) (old : Old) (lines : List MarkedLine) : Type 0 where
  pub since : Since limit old.reader.tree old.mapper lines
  pub short : AreShort lines

-- a fact of a place that holds where each old mark has a row with a partner and each new mark a row
abbrev pub Calmly : ℕ → Old → List MarkedLine → (Tree → List Change → Length → Type 0) → Length → Type 0
Calmly limit old lines P at =
    IsCalm limit old.reader.tree old.mapper lines → P old.reader.tree old.mapper at

-- a parse may go on at a place: no old place ahead lies before what was read; and where each old mark has a row with a
-- partner and each new mark a row, the place lies strictly inside no closed pair that no change meets or touches
pub record IsSet (lines : List MarkedLine) (limit : ℕ) (old : Old) (at : Length) : Type 0 where
  pub ready : IsReady old at
  pub outside : Calmly limit old lines IsOutside at

-- no mark that starts at a place is settled, where each old mark has a row with a partner and each new mark a row
abbrev pub IsUnseen : List MarkedLine → ℕ → Old → Length → Type 0
IsUnseen lines limit old at = Calmly limit old lines NoneSettled at

-- how many unsettled marks are ahead
abbrev pub unsettled_ahead : Old → Source → ℕ
unsettled_ahead old s = count_by (is_unsettled old.reader.tree old.mapper) (ahead s)

-- From one source, count and old tree to others: the lines, the tree and the changes are the same, and steps and marks
-- given rose by at most as many as fewer marks are ahead; where each old mark has a row with a partner and each new mark
-- a row, by at most as many as fewer unsettled marks are.
pub record Went (limit : ℕ) (first : Source) (before : ℕ) (old : Old) (source : Source) (steps : ℕ) (now : Old) : Type 0 where
  pub lines : source.lines ≡ first.lines
  pub few : steps + length (ahead source) ≤ before + length (ahead first)
  pub few_given : source.given + length (ahead source) ≤ first.given + length (ahead first)
  pub same : IsSame old now
  pub fresh : IsCalm limit old.reader.tree old.mapper first.lines
      → steps + unsettled_ahead old source ≤ before + unsettled_ahead old first
  pub fresh_given : IsCalm limit old.reader.tree old.mapper first.lines
      → source.given + unsettled_ahead old source ≤ first.given + unsettled_ahead old first
