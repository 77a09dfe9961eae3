use Rattle.char_sets.proofs.Words.{ones-bits}
use Rattle.char_sets.proofs.bits.ones.Goals as goal

pub returns : goal.returns
returns c k lt = ones-bits c.args.low c.args.high k c.requires.below c.requires.within lt
