use Rattle.std.proofs.Common.{◌≡◌, ℕ, ◌+◌, ◌-◌, Some, subst, arith}
use Rattle.std.proofs.lemmas.List.{take_more}
use Rattle.onig_scan.proofs.BoundLaws.{IsBound-One, IsBound-At, IsBound-Back}
use Rattle.onig_scan.proofs.BoundLaws.{IsBound-Group, IsBound-Choice, IsBound-Ahead, IsBound-Atomic, IsBound-Behind}
use Rattle.onig_scan.proofs.BoundLaws.{IsBound-times, IsBoundOfTimes-none, IsBoundOfTimes-more, AreBounds-push, AreArmBounds-push, of_sum}
use Rattle.onig_scan.proofs.BoundLaws.{id_below, arm_below, if_some}
use Rattle.onig_scan.specs.Bounds.{IsBoundOfTimes}
use Rattle.onig_scan.proofs.bound.+bounds.Goals as goal

pub visits_of_node-returns-in-One : goal.visits_of_node-returns-in-One
visits_of_node-returns-in-One t c = rw c.in-One.is (IsBound-One _ _ _)

pub visits_of_node-returns-in-At : goal.visits_of_node-returns-in-At
visits_of_node-returns-in-At t c = rw c.in-At.is (IsBound-At _ _ _)

pub visits_of_node-returns-in-Back : goal.visits_of_node-returns-in-Back
visits_of_node-returns-in-Back t c = rw c.in-Back.is (IsBound-Back _ _ _ _)

pub visits_of_node-returns-in-Choice : goal.visits_of_node-returns-in-Choice
visits_of_node-returns-in-Choice t c =
    rw c.in-Choice.is (if_some _ _ c.visits_of_ids.result (λ n are. IsBound-Choice _ _ _ n are)
    (rw c.as_slice.ensures at c.visits_of_ids.ensures))

pub visits_of_node-returns-in_ok-closed-in-Group : goal.visits_of_node-returns-in_ok-closed-in-Group
visits_of_node-returns-in_ok-closed-in-Group t c =
    rw c.in-Group.is (if_some _ _ c.visits_of.result
    (λ n is. IsBound-Group _ _ _ _ _ n (c.in_ok-closed-in-Group.ensures).1 is)
    (rw c.list.ensures.nodes at c.visits_of.ensures))

pub visits_of_node-returns-in_ok-seen-in-Ahead : goal.visits_of_node-returns-in_ok-seen-in-Ahead
visits_of_node-returns-in_ok-seen-in-Ahead t c =
    let is = rw c.list-in-Ahead.ensures.nodes at c.in_ok-seen-in-Ahead.ensures in
    rw c.in-Ahead.is (of_sum _ _ _ c.checked_add-in-Ahead.result c.checked_add-in-Ahead.ensures
    (IsBound-Ahead _ _ _ _ _ is))

pub visits_of_node-returns-in_ok-inner-in-Atomic : goal.visits_of_node-returns-in_ok-inner-in-Atomic
visits_of_node-returns-in_ok-inner-in-Atomic t c =
    let is = rw c.list-in-Atomic.ensures.nodes at c.in_ok-inner-in-Atomic.ensures in
    rw c.in-Atomic.is (of_sum _ _ _ c.checked_add-in-Atomic.result c.checked_add-in-Atomic.ensures
    (IsBound-Atomic _ _ _ _ is))

pub visits_of_node-returns-else-most-gt-MOST_TIMES : goal.visits_of_node-returns-else-most-gt-MOST_TIMES
visits_of_node-returns-else-most-gt-MOST_TIMES t c =
    let most : c.in-Repeat.most ≡ Some c.in_ok-most-in-Repeat.most = c.in_ok-most-in-Repeat.was in
    let node = rw c.in-Repeat.is at c.requires in
    let few = rw most at node.0 in
    rw (c.in-Repeat.is, most)
    (if_some _ _ c.visits_of_times.result (λ n is. IsBound-times _ _ _ _ _ _ n few is) c.visits_of_times.ensures)

pub visits_of_times-returns-then-times-eq0 : goal.visits_of_times-returns-then-times-eq0
visits_of_times-returns-then-times-eq0 t c = rw c.if-times-eq0.true (IsBoundOfTimes-none _ _ _)

pub visits_of_times-returns : goal.visits_of_times-returns
visits_of_times-returns t c =
    let Times : ℕ → ℕ → Type 0 = λ times cost. IsBoundOfTimes c.args.pattern.now.lists c.args.body times c.args.after
    cost in
    let all : c.args.times - 1 + 1 ≡ c.args.times = omega (arith, c.if-times-eq0.false) in
    let is = rw c.list.ensures.nodes at c.in_ok-one.ensures in
    of_sum _ _ _ c.checked_add-2.result c.checked_add-2.ensures
    (subst (λ times. Times times (c.in_ok-one.one + c.args.after)) all
    (IsBoundOfTimes-more _ _ _ _ _ _ _ c.in_ok-others.ensures (c.in_ok-again.ensures).1 is))

pub visits_of_node-returns-in_ok-seen-in-Behind : goal.visits_of_node-returns-in_ok-seen-in-Behind
visits_of_node-returns-in_ok-seen-in-Behind t c =
    let are = rw c.as_slice-in-Behind.ensures at c.in_ok-seen-in-Behind.ensures in
    rw c.in-Behind.is (of_sum _ _ _ c.checked_add-in-Behind.result c.checked_add-in-Behind.ensures
    (IsBound-Behind _ _ _ _ _ are))

pub visits_of_ids-list-requires : goal.visits_of_ids-list-requires
visits_of_ids-list-requires t c = id_below _ _ _ _ c.requires c.loop-id-test.true

pub visits_of_ids-loop-id-preserved : goal.visits_of_ids-loop-id-preserved
visits_of_ids-loop-id-preserved t c =
    let one = rw c.list.ensures.nodes at c.in_ok-one.ensures in
    rw (take_more c.args.ids.now c.loop-id.id-index (record { 0 = 0 }) c.loop-id-test.true, (c.in_ok-all.ensures).1)
    (AreBounds-push _ _ _ _ _ _ c.loop-id.invariant one)

pub visits_of_arms-list-requires : goal.visits_of_arms-list-requires
visits_of_arms-list-requires t c = arm_below _ _ _ _ c.requires c.loop-arm-test.true

pub visits_of_arms-loop-arm-preserved : goal.visits_of_arms-loop-arm-preserved
visits_of_arms-loop-arm-preserved t c =
    let one = rw c.list.ensures.nodes at c.in_ok-one.ensures in
    rw (
      take_more c.args.arms.now c.loop-arm.arm-index (record { length = 0; body = record { 0 = 0 } })
          c.loop-arm-test.true,
      (c.in_ok-all.ensures).1,
    )
    (AreArmBounds-push _ _ _ _ _ c.loop-arm.invariant one)
