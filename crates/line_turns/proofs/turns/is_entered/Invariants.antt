use Rattle.std.proofs.Common.{◌≡◌}
use Rattle.scope_defs.specs.Frames.{frames}
use Rattle.line_defs.specs.Turns.{is_entered}
use Rattle.line_turns.proofs.turns.is_entered.Given as goal

abbrev pub invariant-loop-at : goal.invariant-loop-at
invariant-loop-at l = is_entered l.place l.rule.0 (frames l.at) ≡ is_entered l.place l.rule.0 (frames l.fn.stack)
