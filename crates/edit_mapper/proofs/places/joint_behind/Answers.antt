use Rattle.std.proofs.Common.{arith}
use Rattle.edit_mapper.proofs.Halves.{last_before}
use Rattle.change_defs.specs.Changes.{first_joint}
use Rattle.edit_mapper.proofs.places.joint_behind.Goals as goal

pub returns-else-count-eq0 : goal.returns-else-count-eq0
returns-else-count-eq0 c = last_before first_joint c.args.places.now c.args.count _ (omega arith) c.requires
