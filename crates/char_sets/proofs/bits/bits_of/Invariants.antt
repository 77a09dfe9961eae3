use Rattle.std.proofs.Common.{take}
use Rattle.char_sets.specs.Ranges.{AreBitsOf}
use Rattle.char_sets.proofs.bits.bits_of.Given as goal

abbrev pub invariant-loop-range : goal.invariant-loop-range
invariant-loop-range l = AreBitsOf l.word (take l.range-index l.ranges) l.first
