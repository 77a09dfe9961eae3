-- What is known of the answer of a search, whatever the patterns and the text.
use Rattle.std.specs.Prelude.{ℕ, ◌<◌, ◌≤◌}
use Rattle.pattern_defs.specs.declared.outcomes.Found.{Found}
use Rattle.pattern_defs.specs.declared.outcomes.Found.TheVariants.{At, Nowhere, Spent}

-- the pattern that is named is one of so many, and the place that is named isn't outside of these two
abbrev pub IsAmong : (patterns from to : ℕ) → Found → Type 0
IsAmong patterns from to (At index) = index < patterns
IsAmong patterns from to Nowhere = Unit {0}
IsAmong patterns from to (Spent index at) = (index < patterns) × (from ≤ at) × (at ≤ to)

-- a fact of the pattern that matches, if one does
abbrev pub IfAt : Found → (ℕ → Type 0) → Type 0
IfAt (At index) P = P index
IfAt Nowhere P = Unit {0}
IfAt (Spent index at) P = Unit {0}
