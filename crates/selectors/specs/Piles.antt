-- What is taken from a pile.
use Rattle.std.specs.Prelude.{◌≡◌, List, [], ◌∷◌, Option, Some, None}
use Rattle.selectors.specs.declared.pile.Outer.{Outer}

abbrev pub IsPopped : List Outer → List Outer → Option Outer → Type 0
IsPopped before after None = before ≡ []
IsPopped before after (Some outer) = before ≡ outer ∷ after
