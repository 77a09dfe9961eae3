-- Named sets that are made already.
use Rattle.std.specs.Prelude.{List, All}
use Rattle.char_sets.specs.Named.{in_named_if}
use Rattle.char_sets.specs.Ranges.{IsSetOf}
use Rattle.char_sets.specs.declared.named_sets.KnownSet.{KnownSet}

-- the set has just the characters that its name and its sign say
abbrev pub IsKnown : KnownSet → Type 0
IsKnown known = IsSetOf known.set (in_named_if known.negated known.name)

abbrev pub AreKnown : List KnownSet → Type 0
AreKnown known = All IsKnown known
