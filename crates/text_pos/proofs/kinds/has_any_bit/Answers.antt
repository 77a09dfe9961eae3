use Rattle.text_pos.proofs.kinds.has_any_bit.Goals as goal
use Rattle.text_pos.proofs.Bits.{some_is_set}

pub returns : goal.returns
returns c = some_is_set c.args.n c.ranges.n.fits
