use Rattle.text_pos.proofs.kinds.Kinds.meets.Goals as goal
use Rattle.text_pos.proofs.Bits.{meets_when}

pub returns : goal.returns
returns c = meets_when c.args.self.bits c.args.other.bits _ c.has_any_bit.ensures
