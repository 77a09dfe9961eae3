use Rattle.std.proofs.Common.{subst, arith}
use Rattle.std.specs.Rc.{rc_value}
use Rattle.pattern_defs.specs.Patterns.{Tree}
use Rattle.onig_scan.specs.Fronts.{IsFrontOfAll}
use Rattle.onig_scan.proofs.RowLaws.{spared_by_front}
use Rattle.onig_scan.proofs.entry.Entry.may_stand.Goals as goal

pub returns-else-front-from : goal.returns-else-front-from
returns-else-front-from c = λ none.
    let Front : Tree → Type 0 = λ tree. IsFrontOfAll tree c.in-Some.front.set c.in-Some.front.cost in
    let front : Front (rc_value c.self.inside.pattern) = rw c.in-Some.is at c.self.invariant.is in
    spared_by_front c.args.self.now _ _ c.in-Some.front.cost _ (omega (arith, c.if-front-from.false, c.from.ensures))
    (c.may_have.ensures none)
    (subst Front c.self.view_is front)
