use Rattle.std.proofs.lemmas.List.{take_rest}
use Rattle.piece_io.proofs.Cutting.{line_end-some, line_end-none}
use Rattle.piece_io.proofs.line_cutter.line_end.Goals as goal

pub returns-in_err-at : goal.returns-in_err-at
returns-in_err-at c = let none = rw take_rest at c.in_err-at.ensures in
    rw c.from_residual.ensures (line_end-none c.args.bytes.now c.args.seen c.requires.no_lf none)

pub returns : goal.returns
returns c = let found = rw take_rest at c.in_ok-at.ensures in
    line_end-some c.args.bytes.now c.args.seen c.in_ok-at.at c.requires.within c.requires.no_lf found
