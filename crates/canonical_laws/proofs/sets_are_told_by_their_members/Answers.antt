use Rattle.canonical_laws.proofs.CodeSets.{set_of-has, set_of-same}
use Rattle.canonical_laws.proofs.sets_are_told_by_their_members.Goals as goal

pub returns-clause-has : goal.returns-clause-has
returns-clause-has c = set_of-has

pub returns-clause-same : goal.returns-clause-same
returns-clause-same c = set_of-same
