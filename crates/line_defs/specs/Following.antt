-- Tokens that cover a line: each begins where the one before ends.
use Rattle.std.specs.Prelude.{◌≡◌, ℕ, List, [], ◌∷◌}
use Rattle.scope_defs.specs.Frames.{Token}

-- tokens follow one another from one column to another
abbrev pub follow_from : ℕ → List Token → ℕ → Type 0
follow_from from [] to = from ≡ to
follow_from from (token ∷ tokens) to = (token.from ≡ from) × follow_from token.to tokens to

-- there is a token, and they follow one another from the front
abbrev pub Follow : List Token → (length : ℕ) → Type 0
Follow [] length = ⊥
Follow (token ∷ tokens) length = follow_from 0 (token ∷ tokens) length
