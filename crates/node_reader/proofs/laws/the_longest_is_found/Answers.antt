use Rattle.node_reader.proofs.Nested.{longest}
use Rattle.node_reader.proofs.laws.the_longest_is_found.Goals as goal

pub returns : goal.returns
returns c = longest
