use Rattle.line_laws.proofs.Lines.{front-running, line-running, line-runs_to, inner_state-runs}
use Rattle.line_laws.proofs.runs_over_lines_end_by_themselves.Goals as goal

pub returns-clause-front : goal.returns-clause-front
returns-clause-front c = front-running

pub returns-clause-passed : goal.returns-clause-passed
returns-clause-passed c = line-running

pub returns-clause-ends : goal.returns-clause-ends
returns-clause-ends c = line-runs_to

pub returns-clause-inside : goal.returns-clause-inside
returns-clause-inside c = inner_state-runs
