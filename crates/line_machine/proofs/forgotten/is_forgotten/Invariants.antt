use Rattle.std.proofs.Common.{◌≡◌}
use Rattle.scope_defs.specs.Frames.{forgotten_all}
use Rattle.line_machine.proofs.forgotten.is_forgotten.Given as goal

-- where nothing is told from here down, nothing is told at all
abbrev pub invariant-loop-at : goal.invariant-loop-at
invariant-loop-at l = forgotten_all l.at ≡ l.at → forgotten_all l.fn.stack ≡ l.fn.stack
