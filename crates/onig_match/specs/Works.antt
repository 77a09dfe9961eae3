-- What callers see of the room for attempts, and the parts of a text that groups took.
use Rattle.std.specs.Prelude.{ℕ, ◌≤◌}
use Rattle.pattern_defs.specs.declared.outcomes.Place.{Place}
use Rattle.pattern_defs.specs.Attempt.{Captures}

pub record Worked : Type 0 where
  pub budget : ℕ
  pub room : ℕ
  pub hit : Captures

-- a part of a text of so many characters
abbrev pub IsPart : ℕ → Place → Type 0
IsPart chars place = (place.from ≤ place.to) × (place.to ≤ chars)
