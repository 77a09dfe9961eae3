use Rattle.std.proofs.Common.{ℕ, ◌≡◌, ◌<◌, ◌≤◌, Bool, ap, ap₂, sym, subst, ◌∙◌, arith}
use Rattle.char_sets.specs.Keep.{kept}
use Rattle.char_sets.specs.Ranges.{in_set, rises, closed, IsSetOf}
use Rattle.char_sets.proofs.Joined.{Joined, Joined-start, Joined-closed, Joined-more, Joined-gap, Joined-done}
use Rattle.char_sets.proofs.Places.{IsReached-start}
use Rattle.char_sets.proofs.algebra.merged.Goals.{then-not-holds+in_ok-close, else-not-holds}
use Rattle.char_sets.proofs.algebra.merged.Goals as goal

pub loop-at-init : goal.loop-at-init
loop-at-init c =
    let p : ℕ → Bool = λ d. kept c.args.keep (in_set c.args.a.now d) (in_set c.args.b.now d) in
    record {
      so_far = subst (λ rs. Joined rs 0 0 p) (sym c.new-ranges.ensures.items) (Joined-start p);
      first = IsReached-start c.args.a.now;
      second = IsReached-start c.args.b.now;
    }

pub loop-at-preserved : goal.loop-at-preserved
loop-at-preserved c =
    let p : ℕ → Bool = λ d. kept c.args.keep (in_set c.args.a.now d) (in_set c.args.b.now d) in
    let ranges = c.loop-at.ranges.items in
    let start = c.loop-at.start in
    let at = c.loop-at.at in
    let end = c.min-end.result in
    let inv = c.loop-at.invariant in
    let a = c.stretch_from-first in
    let b = c.stretch_from-second in
    let further : at < end = omega (arith, a.ensures.further, b.ensures.further, c.min-end.ensures) in
    let within : end ≤ 1_114_112 = omega (arith, a.ensures.end, c.min-end.ensures) in
    let member : (d : ℕ) → at ≤ d → d < end → p d ≡ c.holds.result = λ d from to.
    let in_a : d < a.result.end = omega (arith, to, c.min-end.ensures) in
    let in_b : d < b.result.end = omega (arith, to, c.min-end.ensures) in
    ap₂ (kept c.args.keep) (a.ensures.all d from in_a) (b.ensures.all d from in_b) ∙ sym c.holds.ensures in
    record {
      so_far = elim c.if-not-holds.branch [
        | then-not-holds+in_ok-close w ↦
            let gap = Joined-gap (closed ranges start at) at end p (Joined-closed ranges start at p inv.so_far)
            further within
            (λ d from to. member d from to ∙ w.if-not-holds.true) in
            let written = subst (λ rs. Joined rs end end p)
            (sym (ap (λ v. v.items) w.ranges-is ∙ w.in_ok-close.ensures)) gap in
            subst (λ n. Joined c.if-not-holds.ranges.items n end p) (sym w.start-is) written
        | else-not-holds w ↦
            let more = Joined-more ranges start at end p inv.so_far further within
            (λ d from to. member d from to ∙ w.if-not-holds.false) in
            let written = subst (λ rs. Joined rs start end p) (sym (ap (λ v. v.items) w.ranges-is)) more in
            subst (λ n. Joined c.if-not-holds.ranges.items n end p) (sym w.start-is) written
      ];
      first = c.place_behind-in_a.ensures;
      second = c.place_behind-in_b.ensures;
    }

pub returns-clause-rising : goal.returns-clause-rising
returns-clause-rising c =
    let p : ℕ → Bool = λ d. kept c.args.keep (in_set c.args.a.now d) (in_set c.args.b.now d) in
    ap (rises 0) c.in_ok-close-2.ensures
    ∙ (Joined-closed c.loop-at.ranges.items c.loop-at.start c.loop-at.at p c.loop-at.invariant.so_far).rising

pub returns-clause-members : goal.returns-clause-members
returns-clause-members c =
    let p : ℕ → Bool = λ d. kept c.args.keep (in_set c.args.a.now d) (in_set c.args.b.now d) in
    let ranges = closed c.loop-at.ranges.items c.loop-at.start c.loop-at.at in
    subst (λ rs. IsSetOf rs p) (sym c.in_ok-close-2.ensures)
    (Joined-done ranges c.loop-at.at p (Joined-closed c.loop-at.ranges.items c.loop-at.start c.loop-at.at p
    c.loop-at.invariant.so_far) c.loop-at-test.false)
