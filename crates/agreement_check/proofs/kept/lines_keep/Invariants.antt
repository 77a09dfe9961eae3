use Rattle.std.proofs.Common.{◌≡◌, drop}
use Rattle.agreement_check.specs.Checks.{lines_keep}
use Rattle.agreement_check.proofs.kept.lines_keep.Given as goal

abbrev pub invariant-loop-n : goal.invariant-loop-n
invariant-loop-n l = lines_keep l.joint l.next l.new l.n (drop l.n l.old) ≡ lines_keep l.joint l.next l.new 0 l.old
