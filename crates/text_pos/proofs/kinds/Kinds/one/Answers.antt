use Rattle.text_pos.proofs.kinds.Kinds.one.Goals as goal
use Rattle.text_pos.proofs.Bits.{is_set_one}

pub returns-clause-members : goal.returns-clause-members
returns-clause-members c = λ j. is_set_one c.args.k j c.requires
