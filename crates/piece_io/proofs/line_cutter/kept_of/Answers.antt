use Rattle.piece_io.proofs.Cutting.{pending-kept}
use Rattle.piece_io.proofs.line_cutter.kept_of.Goals as goal

pub returns-then-over : goal.returns-then-over
returns-then-over c = rw c.if-over.true (pending-kept c.from_lf.result.now c.args.piece.now c.from_lf.ensures)
