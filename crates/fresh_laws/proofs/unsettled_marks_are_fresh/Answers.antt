use Rattle.fresh_laws.proofs.FreshLaw.{fresh_law}
use Rattle.fresh_laws.proofs.unsettled_marks_are_fresh.Goals as goal

pub returns : goal.returns
returns c = fresh_law
