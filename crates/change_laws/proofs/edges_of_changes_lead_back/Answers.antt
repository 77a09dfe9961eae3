use Rattle.change_laws.proofs.EdgeLaws.{end_law, new_start_law, forth_law}
use Rattle.change_laws.proofs.edges_of_changes_lead_back.Goals as goal

pub returns-clause-ends : goal.returns-clause-ends
returns-clause-ends c = end_law

pub returns-clause-starts : goal.returns-clause-starts
returns-clause-starts c = new_start_law

pub returns-clause-forth : goal.returns-clause-forth
returns-clause-forth c = forth_law
