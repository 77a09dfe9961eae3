use Rattle.std.proofs.Common.{◌≡◌}
use Rattle.change_defs.specs.Changes.{first_joint, last_joint}
use Rattle.edit_mapper_tests.proofs.changes.changes_of.Given as goal

abbrev pub invariant-loop-piece : goal.invariant-loop-piece
invariant-loop-piece l = last_joint first_joint l.spans ≡ l.joint
