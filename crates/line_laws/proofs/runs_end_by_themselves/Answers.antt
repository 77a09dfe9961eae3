use Rattle.line_laws.proofs.Turns.{run_from-ends}
use Rattle.line_laws.proofs.runs_end_by_themselves.Goals as goal

pub returns : goal.returns
returns c = λ machine inside text state running. run_from-ends machine inside text state running
