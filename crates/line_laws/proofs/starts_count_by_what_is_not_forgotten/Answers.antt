use Rattle.line_laws.proofs.Lines.{tokenised-bare, tokenised-alike}
use Rattle.line_laws.proofs.starts_count_by_what_is_not_forgotten.Goals as goal

pub returns-clause-bare : goal.returns-clause-bare
returns-clause-bare c = tokenised-bare

pub returns-clause-alike : goal.returns-clause-alike
returns-clause-alike c = tokenised-alike
