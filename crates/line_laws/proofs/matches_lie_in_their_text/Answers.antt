use Rattle.line_laws.proofs.Found.{scan-lies, search-lies}
use Rattle.line_laws.proofs.matches_lie_in_their_text.Goals as goal

pub returns-clause-scan : goal.returns-clause-scan
returns-clause-scan c = scan-lies

pub returns-clause-search : goal.returns-clause-search
returns-clause-search c = search-lies
