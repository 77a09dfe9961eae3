-- What a set made of two has.
use Rattle.std.specs.Prelude.{Bool, ◌&&◌, ◌||◌, not}
use Rattle.char_sets.specs.declared.algebra.Keep.{Keep}
use Rattle.char_sets.specs.declared.algebra.Keep.TheVariants.{Either, Both, FirstAlone}

-- whether it has what the first set has, or hasn't, and the second
abbrev pub kept : Keep → Bool → Bool → Bool
kept Either a b = a || b
kept Both a b = a && b
kept FirstAlone a b = a && not b
