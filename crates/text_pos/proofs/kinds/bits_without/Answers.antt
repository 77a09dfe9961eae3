use Rattle.text_pos.proofs.kinds.bits_without.Goals as goal
use Rattle.text_pos.proofs.Bits.{is_set_but}

pub returns : goal.returns
returns c = λ k below. is_set_but c.args.n c.args.other k c.ranges.other.fits below
