use Rattle.std.proofs.Common.{◌+◌}
use Rattle.pattern_defs.specs.Attempt.{attempt}
use Rattle.onig_match.proofs.Budgets.{attempt-wide, same_outcome, same_captures}
use Rattle.onig_match.proofs.laws.a_greater_budget_changes_no_answer.Goals as goal

pub returns-clause-outcome : goal.returns-clause-outcome
returns-clause-outcome c =
    λ tree text at flags budget more told.
    same_outcome more (attempt tree text at flags budget) (attempt tree text at flags (budget + more))
    (attempt-wide tree text at flags budget more) told

pub returns-clause-captures : goal.returns-clause-captures
returns-clause-captures c =
    λ tree text at flags budget more last told.
    same_captures more (attempt tree text at flags budget) (attempt tree text at flags (budget + more)) last
    (attempt-wide tree text at flags budget more) told
