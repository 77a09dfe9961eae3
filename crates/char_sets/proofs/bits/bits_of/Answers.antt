use Rattle.char_sets.proofs.Rising.{rises-drop}
use Rattle.char_sets.proofs.Words.{AreBitsOf-more}
use Rattle.char_sets.proofs.bits.bits_of.Goals as goal

pub bits_of_range-word-requires-clause-ordered : goal.bits_of_range-word-requires-clause-ordered
bits_of_range-word-requires-clause-ordered c =
    (rises-drop 0 c.args.ranges.now c.loop-range.range-index (record { first = 0; last = 0 }) c.requires.rising
    c.loop-range-test.true).ordered

pub loop-range-preserved : goal.loop-range-preserved
loop-range-preserved c =
    AreBitsOf-more c.loop-range.word c.bits_of_range-word.result c.args.first c.args.ranges.now c.loop-range.range-index
    (record { first = 0; last = 0 }) c.loop-range-test.true c.loop-range.invariant c.bits_of_range-word.ensures
