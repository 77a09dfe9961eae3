use Rattle.std.proofs.Common.{ℕ, ◌+◌, List, ap, ◌∙◌}
use Rattle.pattern_defs.specs.declared.outcomes.Flags.{Flags}
use Rattle.pattern_defs.specs.FirstMatch.{pairs, first_pair, found_at, captures_at}
use Rattle.onig_scan.proofs.Budgets.{AreSame, first_of-same, found_at-same, captures_at-same}
use Rattle.onig_scan.proofs.laws.a_greater_budget_changes_no_match.Goals as goal

-- what is known of attempts
same : goal.After-a_greater_budget_changes_no_answer → (text : List ℕ) (flags : Flags) (budget more : ℕ)
    → AreSame text flags budget more
same c text flags budget more = record {
  outcome = λ pair told. c.a_greater_budget_changes_no_answer.ensures.outcome pair.tree text pair.place flags budget
      more told;
  captures = λ pair last told. c.a_greater_budget_changes_no_answer.ensures.captures pair.tree text pair.place flags
      budget more last told;
}

pub returns-clause-found : goal.returns-clause-found
returns-clause-found c =
    λ trees text from flags budget more told.
    ap (found_at text flags (budget + more))
    (first_of-same text flags budget more (pairs trees text from) (same c text flags budget more) told)
    ∙ found_at-same text flags budget more (first_pair trees text from flags budget) (same c text flags budget more)
    told

pub returns-clause-captures : goal.returns-clause-captures
returns-clause-captures c =
    λ trees text from flags budget more last told.
    ap (λ o. captures_at text flags (budget + more) o last)
    (first_of-same text flags budget more (pairs trees text from) (same c text flags budget more) told)
    ∙ captures_at-same text flags budget more (first_pair trees text from flags budget) last
    (same c text flags budget more) told
