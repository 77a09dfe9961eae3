use Rattle.std.proofs.Common.{◌≡◌, ◌++◌, drop, map}
use Rattle.pairing_defs.specs.Marks.{on_line}
use Rattle.agreement_check.proofs.plain.take_line.Given as goal

abbrev pub invariant-loop-mark : goal.invariant-loop-mark
invariant-loop-mark l = l.all.items ++ map (on_line l.n) (drop l.mark-index l.marks)
    ≡ l.initial.all.items ++ map (on_line l.n) l.marks
