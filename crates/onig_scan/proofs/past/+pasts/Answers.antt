use Rattle.std.proofs.Common.{◌≡◌, ◌∷◌, arith}
use Rattle.std.proofs.lemmas.List.{take_more}
use Rattle.onig_scan.proofs.BoundLaws.{id_below}
use Rattle.onig_scan.proofs.PastLaws.{past_more, IsPast-wider, ArePasts-wider, ArePasts-push, IsPast-Group, IsPast-Atomic}
use Rattle.onig_scan.proofs.PastLaws.{IsPast-Choice, IsPast-Repeat, IsPast-Ahead}
use Rattle.onig_scan.proofs.past.+pasts.Goals as goal

pub past_of-returns : goal.past_of-returns
past_of-returns t c =
    let split : c.args.nodes.now ≡ c.in-Some.first.now ∷ c.in-Some.rest.now = (c.in-Some.ensures.cases).0 in
    rw split
    (past_more _ _ _ _ c.in-Some-visits_to_pass.visits c.in_ok-past-2.past c.with_visits.result
    (λ f is. c.in-Some-visits_to_pass.ensures.passes _ _ f f.cost is) c.in_ok-past-2.ensures c.with_visits.ensures)

pub past_of_ids-list-requires : goal.past_of_ids-list-requires
past_of_ids-list-requires t c = id_below _ _ _ _ c.requires c.loop-id-test.true

pub past_of_ids-loop-id-preserved : goal.past_of_ids-loop-id-preserved
past_of_ids-loop-id-preserved t c =
    let joined = rw c.in-Some-2.is at c.in_ok-both.ensures in
    let one = rw c.list.ensures.nodes at (rw c.in-Some.is at c.in_ok-past.ensures) in
    rw (take_more c.args.ids.now c.loop-id.id-index (record { 0 = 0 }) c.loop-id-test.true)
    (ArePasts-push _ _ _ _ _ _ _ _ joined.2 (ArePasts-wider _ _ _ _ _ _ joined.0 c.loop-id.invariant)
    (IsPast-wider _ _ _ _ _ _ joined.1 one))

pub past_of_node-returns-in-At : goal.past_of_node-returns-in-At
past_of_node-returns-in-At t c = rw c.in-At.is (c.past_of_anchor.ensures _)

pub past_of_node-returns-in_ok-past-in-Group : goal.past_of_node-returns-in_ok-past-in-Group
past_of_node-returns-in_ok-past-in-Group t c =
    rw c.in-Group.is
    (past_more _ _ _ _ 1 c.in_ok-past-in-Group.past c.with_visits.result (λ f is. IsPast-Group _ _ _ _ f f.cost is)
    (rw c.list.ensures.nodes at c.in_ok-past-in-Group.ensures) c.with_visits.ensures)

pub past_of_node-returns-in_ok-past-in-Atomic : goal.past_of_node-returns-in_ok-past-in-Atomic
past_of_node-returns-in_ok-past-in-Atomic t c =
    rw c.in-Atomic.is
    (past_more _ _ _ _ 1 c.in_ok-past-in-Atomic.past c.with_visits-in-Atomic.result (λ f is. IsPast-Atomic _ _ _ f f.cost is)
    (rw c.list-in-Atomic.ensures.nodes at c.in_ok-past-in-Atomic.ensures) c.with_visits-in-Atomic.ensures)

pub past_of_node-returns-in_ok-past-in-Choice : goal.past_of_node-returns-in_ok-past-in-Choice
past_of_node-returns-in_ok-past-in-Choice t c =
    rw c.in-Choice.is
    (past_more _ _ _ _ 1 c.in_ok-past-in-Choice.past c.with_visits-in-Choice.result (λ f is. IsPast-Choice _ _ _ f f.cost is)
    (rw c.as_slice.ensures at c.in_ok-past-in-Choice.ensures) c.with_visits-in-Choice.ensures)

pub past_of_node-returns-in_ok-past-in-Repeat : goal.past_of_node-returns-in_ok-past-in-Repeat
past_of_node-returns-in_ok-past-in-Repeat t c =
    rw c.in-Repeat.is
    (past_more _ _ _ _ 1 c.in_ok-past-in-Repeat.past c.with_visits-in-Repeat.result (λ f is. IsPast-Repeat _ _ _ _ _ _ f f.cost (omega (arith, c.if-least-eq0.false)) is)
    (rw c.list-in-Repeat.ensures.nodes at c.in_ok-past-in-Repeat.ensures) c.with_visits-in-Repeat.ensures)

pub past_of_node-returns-in_ok-past-in-Ahead : goal.past_of_node-returns-in_ok-past-in-Ahead
past_of_node-returns-in_ok-past-in-Ahead t c =
    rw (c.in-Ahead.is, c.if-not-wanted.false)
    (past_more _ _ _ _ 1 c.in_ok-past-in-Ahead.past c.with_visits-in-Ahead.result (λ f is. IsPast-Ahead _ _ _ f f.cost is)
    (rw c.list-in-Ahead.ensures.nodes at c.in_ok-past-in-Ahead.ensures) c.with_visits-in-Ahead.ensures)

pub past_of_node-returns-in-Behind : goal.past_of_node-returns-in-Behind
past_of_node-returns-in-Behind t c =
    rw c.in-Behind.is (rw c.as_slice-in-Behind.ensures at (c.past_of_arms.ensures c.args.inside))
