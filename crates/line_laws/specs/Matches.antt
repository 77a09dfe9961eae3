-- Where a match lies in its text.
use Rattle.std.specs.Prelude.{ℕ, ◌≤◌, IfSome}
use Rattle.pattern_defs.specs.Attempt.{Captures, capture_of}
use Rattle.onig_match.specs.Works.{IsPart}
use Rattle.line_defs.specs.Search.{Matched}

-- what groups took are parts of a text of so many characters
abbrev pub AreParts : (chars : ℕ) → Captures → Type 0
AreParts chars captures = (number : ℕ) → IfSome (capture_of captures number) (IsPart chars)

-- a match lies in a text of so many characters, from a place on, and so does what its groups took
pub record LiesIn (place chars : ℕ) (m : Matched) : Type 0 where
  pub begins : place ≤ m.from
  pub goes : m.from ≤ m.to
  pub ends : m.to ≤ chars
  pub parts : AreParts chars m.captures
