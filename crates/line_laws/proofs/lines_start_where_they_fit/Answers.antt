use Rattle.line_laws.proofs.Stacks.{start_of-fits, bare-fits}
use Rattle.line_laws.proofs.Lines.{tokenised-fits}
use Rattle.line_laws.proofs.lines_start_where_they_fit.Goals as goal

pub returns-clause-first : goal.returns-clause-first
returns-clause-first c = start_of-fits

pub returns-clause-bare : goal.returns-clause-bare
returns-clause-bare c = bare-fits

pub returns-clause-next : goal.returns-clause-next
returns-clause-next c = tokenised-fits
