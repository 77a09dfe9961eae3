use Rattle.std.proofs.Common.{◌≡◌, ◌++◌, drop}
use Rattle.agreement_check.specs.Checks.{moved_marks}
use Rattle.agreement_check.proofs.clear.moved_marks.Given as goal

abbrev pub invariant-loop-mark : goal.invariant-loop-mark
invariant-loop-mark l = l.all.items ++ moved_marks l.places (drop l.mark-index l.marks) ≡ moved_marks l.places l.marks
