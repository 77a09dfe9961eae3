use Rattle.line_laws.proofs.Lines.{tokenised-follows}
use Rattle.line_laws.proofs.tokens_cover_their_line.Goals as goal

pub returns : goal.returns
returns c = tokenised-follows
