use Rattle.std.proofs.Common.{true, subst, arith}
use Rattle.std.specs.Rc.{rc_value}
use Rattle.pattern_defs.specs.Patterns.{Tree}
use Rattle.onig_scan.specs.Pasts.{IsPastOfAll}
use Rattle.onig_scan.proofs.RowLaws.{spared_by_past}
use Rattle.onig_scan.proofs.entry.Entry.may_go_on.Goals as goal

pub returns-else-inner-from : goal.returns-else-inner-from
returns-else-inner-from c = λ none.
    let Past : Tree → Type 0 = λ tree. IsPastOfAll true tree c.in-Some.inner in
    let past : Past (rc_value c.self.inside.pattern) = rw c.in-Some.is at c.self.invariant.within in
    spared_by_past true c.args.self.now c.in-Some.inner _ _ (omega (arith, c.if-inner-from.false, c.from.ensures))
    (c.may_precede.ensures none) (subst Past c.self.view_is past)
