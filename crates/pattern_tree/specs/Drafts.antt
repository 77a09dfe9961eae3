-- The lists of a pattern that is being put together.
use Rattle.std.specs.Prelude.{ℕ}
use Rattle.pattern_defs.specs.Patterns.{NodeLists}

-- the lists so far, and a number below which or at which the groups that they name lie
pub record Drafted : Type 0 where
  pub lists : NodeLists
  pub named : ℕ
