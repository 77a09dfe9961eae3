use Rattle.std.proofs.Common.{◌↔◌}
use Rattle.agreement_check.specs.Checks.{AreSound}
use Rattle.agreement_check.proofs.marked.are_sound.Given as goal

abbrev pub invariant-loop-line : goal.invariant-loop-line
invariant-loop-line l = AreSound l.line-iterator ↔ AreSound l.lines
