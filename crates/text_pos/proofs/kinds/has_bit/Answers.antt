use Rattle.text_pos.proofs.kinds.has_bit.Goals as goal
use Rattle.text_pos.proofs.Bits.{none_above}

pub returns-else-k-lt64 : goal.returns-else-k-lt64
returns-else-k-lt64 c = none_above c.args.n c.args.k c.ranges.n.fits c.if-k-lt64.false
