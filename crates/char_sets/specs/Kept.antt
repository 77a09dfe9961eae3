-- The ranges that a set keeps.
use Rattle.std.specs.Prelude.{List, [], ◌∷◌}
use Rattle.std.specs.Rc.{rc_slice_items}
use Rattle.char_sets.specs.declared.char_set.CharRange.{CharRange}
use Rattle.char_sets.specs.declared.ranges.Ranges.{Ranges}
use Rattle.char_sets.specs.declared.ranges.Ranges.TheVariants.{Nothing, One, Shared}

abbrev pub ranges_of : Ranges → List CharRange
ranges_of Nothing = []
ranges_of (One range) = range ∷ []
ranges_of (Shared ranges) = rc_slice_items ranges
