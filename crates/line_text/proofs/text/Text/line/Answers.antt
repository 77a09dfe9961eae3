use Rattle.line_text.proofs.PlainLines.{no_lf, no_cr}
use Rattle.line_text.proofs.text.Text.line.Goals as goal

pub returns-clause-no_lf : goal.returns-clause-no_lf
returns-clause-no_lf c = rw c.get.ensures (no_lf _ c.shared_line.ensures.plain)

pub returns-clause-no_cr : goal.returns-clause-no_cr
returns-clause-no_cr c = rw c.get.ensures (no_cr _ c.shared_line.ensures.plain)
