use Rattle.std.proofs.Common.{◌≡◌, length}
use Rattle.line_defs.specs.Captures.{closed_all}
use Rattle.line_output.specs.Locals.{innermost_first}
use Rattle.line_output.proofs.locals.Locals.close_all.Given as goal

abbrev pub invariant-loop-local : goal.invariant-loop-local
invariant-loop-local l =
    closed_all (innermost_first l.self-inside.locals.items) l.out ≡ closed_all l.fn.self l.fn.out

abbrev pub decreases-loop-local : goal.decreases-loop-local
decreases-loop-local l = length l.self-inside.locals.items
