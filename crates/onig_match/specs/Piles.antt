-- Items in room that was reserved, the last first.
use Rattle.std.specs.Prelude.{ℕ, List}

pub record Piled (T : Type 0) : Type 0 where
  pub room : ℕ
  pub items : List T
