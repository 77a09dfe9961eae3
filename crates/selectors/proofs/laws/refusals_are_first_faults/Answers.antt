use Rattle.selectors.proofs.FirstFaults.{refused_first}
use Rattle.selectors.proofs.laws.refusals_are_first_faults.Goals as goal

pub returns : goal.returns
returns c = refused_first
