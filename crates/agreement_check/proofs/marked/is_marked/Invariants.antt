use Rattle.std.proofs.Common.{◌↔◌, drop}
use Rattle.mark_source.specs.Source.{RiseIn}
use Rattle.agreement_check.proofs.marked.is_marked.Given as goal

abbrev pub invariant-loop-mark : goal.invariant-loop-mark
invariant-loop-mark l = RiseIn l.from l.line.length (drop l.mark-index l.mark-items) ↔ RiseIn 0 l.line.length l.mark-items
