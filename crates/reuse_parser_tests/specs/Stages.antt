-- Lines with their tree at a nesting limit.
use Rattle.std.specs.Prelude.{ℕ, ◌^◌, ◌<◌, ◌≤◌, List, length}
use Rattle.bracket_marks.specs.MarkedLine.{MarkedLine, marks_in}
use Rattle.tree_defs.specs.Tree.{Tree}
use Rattle.agreement_check.specs.Checks.{AreSound}
use Rattle.reuse_defs.specs.Whole.{StandsFor}

pub record IsStage (limit : ℕ) (lines : List MarkedLine) (t : Tree) : Type 0 where
  pub limit_is : limit ≤ 300
  pub sound : AreSound lines
  pub some : 0 < length lines
  pub few : length (marks_in lines) < 2 ^ 32
  pub stands : StandsFor limit t lines
