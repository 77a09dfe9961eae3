use Rattle.std.proofs.Common.{false, subst, arith}
use Rattle.std.specs.Rc.{rc_value}
use Rattle.pattern_defs.specs.Patterns.{Tree}
use Rattle.onig_scan.specs.Pasts.{IsPastOfAll}
use Rattle.onig_scan.proofs.RowLaws.{spared_by_past}
use Rattle.onig_scan.proofs.entry.Entry.may_follow.Goals as goal

pub returns-else-past-from : goal.returns-else-past-from
returns-else-past-from c = λ none.
    let Past : Tree → Type 0 = λ tree. IsPastOfAll false tree c.in-Some.past in
    let past : Past (rc_value c.self.inside.pattern) = rw c.in-Some.is at c.self.invariant.before in
    spared_by_past false c.args.self.now c.in-Some.past _ _ (omega (arith, c.if-past-from.false, c.from.ensures))
    (c.may_precede.ensures none) (subst Past c.self.view_is past)
