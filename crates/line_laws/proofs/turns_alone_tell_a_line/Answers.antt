use Rattle.line_laws.proofs.Ways.{tokenised_along-same, run_from-leads}
use Rattle.line_laws.proofs.turns_alone_tell_a_line.Goals as goal

pub returns-clause-same : goal.returns-clause-same
returns-clause-same c = λ machine way start line leads is. tokenised_along-same machine way leads start line is

pub returns-clause-leads : goal.returns-clause-leads
returns-clause-leads c = run_from-leads
