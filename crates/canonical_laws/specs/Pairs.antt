-- Pairs of a place and a pattern, with the pattern in canonical form.
use Rattle.pattern_defs.specs.FirstMatch.{Pair}
use Rattle.canonical_patterns.specs.Canonical.{canonical}

abbrev pub canonical_pair : Pair → Pair
canonical_pair pair = record { place = pair.place; index = pair.index; tree = canonical pair.tree }
