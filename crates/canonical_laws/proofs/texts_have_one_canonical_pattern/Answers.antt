use Rattle.canonical_laws.proofs.Readings.{tree_of-canonical, tree_read-canonical, tree_read-refused}
use Rattle.canonical_laws.proofs.texts_have_one_canonical_pattern.Goals as goal

pub returns-clause-one : goal.returns-clause-one
returns-clause-one c = tree_of-canonical

pub returns-clause-read : goal.returns-clause-read
returns-clause-read c = tree_read-canonical

pub returns-clause-refused : goal.returns-clause-refused
returns-clause-refused c = tree_read-refused
