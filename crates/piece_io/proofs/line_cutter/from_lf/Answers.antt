use Rattle.std.proofs.lemmas.List.{take_rest}
use Rattle.piece_io.proofs.Cutting.{lf-rest}
use Rattle.piece_io.proofs.line_cutter.from_lf.Goals as goal

pub returns-in-Some : goal.returns-in-Some
returns-in-Some c = rw take_rest (lf-rest c.args.bytes.now c.in-Some.at c.in-Some.ensures)
