use Rattle.std.proofs.Common.{◌≡◌, false}
use Rattle.piece_io_tests.proofs.tests.cut_into_lines.Given as goal

abbrev pub invariant-loop-piece : goal.invariant-loop-piece
invariant-loop-piece l = l.cutter.ended ≡ false
