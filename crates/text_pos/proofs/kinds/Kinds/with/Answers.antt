use Rattle.text_pos.proofs.kinds.Kinds.with.Goals as goal
use Rattle.text_pos.proofs.Bits.{is_set_or}

pub returns : goal.returns
returns c = λ k. is_set_or c.args.self.bits c.args.other.bits k
