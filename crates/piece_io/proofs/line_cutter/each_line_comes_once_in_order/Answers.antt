use Rattle.piece_io.proofs.CutRuns.{each_line_once_in_order}
use Rattle.piece_io.proofs.line_cutter.each_line_comes_once_in_order.Goals as goal

pub returns : goal.returns
returns c = each_line_once_in_order
