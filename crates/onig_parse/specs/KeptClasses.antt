-- Classes whose sets are kept from the first reading of a text.
use Rattle.std.specs.Prelude.{ℕ, List, All, drop}
use Rattle.syntax_defs.specs.PatternMeaning.{IsSetRead}
use Rattle.syntax_defs.specs.Singles.{single_at}
use Rattle.onig_parse.specs.declared.kept.KeptClass.{KeptClass}

-- the set has the characters of the single item that stands at the place
abbrev pub IsKeptClass : List ℕ → KeptClass → Type 0
IsKeptClass text class = IsSetRead class.set (single_at class.options class.depth class.at (drop class.at text))

abbrev pub AreKeptClasses : List ℕ → List KeptClass → Type 0
AreKeptClasses text classes = All (IsKeptClass text) classes
