use Rattle.std.proofs.Common.{◌≡◌}
use Rattle.piece_io_tests.proofs.tests.show_lines.Given as goal

abbrev pub invariant-loop : goal.invariant-loop
invariant-loop l = l.cutter.ended ≡ l.initial.cutter.ended
