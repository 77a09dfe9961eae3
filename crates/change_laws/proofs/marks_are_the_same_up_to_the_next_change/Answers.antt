use Rattle.change_laws.proofs.Stretches.{stretch_law}
use Rattle.change_laws.proofs.marks_are_the_same_up_to_the_next_change.Goals as goal

pub returns : goal.returns
returns c = stretch_law
