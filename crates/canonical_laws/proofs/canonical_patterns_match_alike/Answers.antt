use Rattle.canonical_laws.proofs.Alike.{attempt-canonical}
use Rattle.canonical_laws.proofs.Searches.{tried-canonical, first_pair-canonical, first_match-canonical}
use Rattle.canonical_laws.proofs.Searches.{captures_after-canonical}
use Rattle.canonical_laws.proofs.canonical_patterns_match_alike.Goals as goal

pub returns-clause-attempt : goal.returns-clause-attempt
returns-clause-attempt c = attempt-canonical

pub returns-clause-tried : goal.returns-clause-tried
returns-clause-tried c = tried-canonical

pub returns-clause-pair : goal.returns-clause-pair
returns-clause-pair c = first_pair-canonical

pub returns-clause-found : goal.returns-clause-found
returns-clause-found c = first_match-canonical

pub returns-clause-captures : goal.returns-clause-captures
returns-clause-captures c = captures_after-canonical
