use Rattle.pattern_defs.specs.declared.nodes.PatNode.TheVariants.{One}
use Rattle.std.proofs.Common.{◌≡◌, ◌∷◌, ◌+◌, Some}
use Rattle.std.proofs.lemmas.List.{take_more}
use Rattle.onig_scan.proofs.BoundLaws.{id_below}
use Rattle.onig_scan.proofs.FrontLaws.{lifted, if_found, copied_more, more_front}
use Rattle.onig_scan.proofs.FrontLaws.{IsFront-cost, IsFront-cons, IsFront-One, at_front, IsFront-Group}
use Rattle.onig_scan.proofs.FrontLaws.{IsFront-Choice, IsFront-Ahead, IsFront-Behind, IsFront-wider, AreFronts-wider}
use Rattle.onig_scan.proofs.FrontLaws.{AreFronts-push, IsFrontOfOwn-some, IsFrontOfOwn-none, IsFrontOfBoth, IsFrontOfRepeat-some}
use Rattle.onig_scan.proofs.FrontLaws.{IsFrontOfRepeat-none}
use Rattle.onig_scan.proofs.front_of.+fronts.Goals as goal

pub front_of-returns-in-One : goal.front_of-returns-in-One
front_of-returns-in-One t c =
    let split : c.args.nodes.now ≡ c.in-Some.first.now ∷ c.in-Some.rest.now = (c.in-Some.ensures.cases).0 in
    let one : c.in-Some.first.now ≡ One c.in-One.set = c.in-One.is in
    rw (split, one, c.in_ok-set.ensures) (IsFront-One _ _ _ _ _ _)

pub front_of-returns : goal.front_of-returns
front_of-returns t c =
    let split : c.args.nodes.now ≡ c.in-Some.first.now ∷ c.in-Some.rest.now = (c.in-Some.ensures.cases).0 in
    more_front _ 1 c.in_ok-front.front c.with_visits.result
    (rw split (if_found _ _ c.in_ok-front.front
    (λ f is. IsFront-cons _ _ _ _ _ f (f.cost + 1) c.in_ok-after.ensures is) c.in_ok-front.ensures))
    (λ f cost is. IsFront-cost _ _ _ f (f.cost + 1) cost is) c.with_visits.ensures

pub front_of_ahead-returns : goal.front_of_ahead-returns
front_of_ahead-returns t c =
    if_found _ _ c.with_visits.result (λ f more. IsFront-Ahead _ _ _ _ f _
    (rw c.list.ensures.nodes at c.in-Some-visits_of.ensures) more)
    (copied_more c.args.after.now c.in_ok-copied.field-0 c.with_visits.result c.in-Some-visits_of.visits
    c.in_ok-copied.ensures c.with_visits.ensures)

pub front_of_ids-list-requires : goal.front_of_ids-list-requires
front_of_ids-list-requires t c = id_below _ _ _ _ c.requires c.loop-id-test.true

pub front_of_ids-loop-id-preserved : goal.front_of_ids-loop-id-preserved
front_of_ids-loop-id-preserved t c =
    let joined = rw c.in-Some-2.is at c.in_ok-both.ensures in
    let one = rw c.list.ensures.nodes at (rw c.in-Some.is at c.in_ok-front.ensures) in
    rw (take_more c.args.ids.now c.loop-id.id-index (record { 0 = 0 }) c.loop-id-test.true)
    (AreFronts-push _ _ _ _ _ _ _ _ joined.2 (AreFronts-wider _ _ _ _ _ _ joined.0 c.loop-id.invariant)
    (IsFront-wider _ _ _ _ _ _ joined.1 one))

pub front_of_node-returns-in-At : goal.front_of_node-returns-in-At
front_of_node-returns-in-At t c =
    rw c.in-At.is (lifted _ _ c.copied.result (λ f same. at_front _ _ _ f same) c.copied.ensures)

pub front_of_node-returns-in-Choice : goal.front_of_node-returns-in-Choice
front_of_node-returns-in-Choice t c =
    rw c.in-Choice.is (lifted _ _ c.front_of_ids.result (λ f are. IsFront-Choice _ _ _ f f.cost are)
    (rw c.as_slice.ensures at c.front_of_ids.ensures))

pub front_of_node-returns-in_ok-copied-in-Behind : goal.front_of_node-returns-in_ok-copied-in-Behind
front_of_node-returns-in_ok-copied-in-Behind t c =
    rw c.in-Behind.is
    (if_found _ _ c.with_visits.result (λ f more. IsFront-Behind _ _ _ _ f _
    (rw c.as_slice-in-Behind.ensures at c.in-Some.ensures) more)
    (copied_more c.args.after.now c.in_ok-copied-in-Behind.field-0 c.with_visits.result c.in-Some.visits
    c.in_ok-copied-in-Behind.ensures c.with_visits.ensures))

pub front_of_node-returns-in_ok-copied-in-Group : goal.front_of_node-returns-in_ok-copied-in-Group
front_of_node-returns-in_ok-copied-in-Group t c =
    let more = copied_more c.args.after.now c.in_ok-copied-in-Group.field-0 c.with_visits-closed.result 1
    c.in_ok-copied-in-Group.ensures c.with_visits-closed.ensures in
    rw c.in-Group.is (lifted _ _ c.front_of.result (λ f is. IsFront-Group _ _ _ _ _ f more is)
    (rw c.list.ensures.nodes at c.front_of.ensures))

pub front_of_own-returns-then-not-inner : goal.front_of_own-returns-then-not-inner
front_of_own-returns-then-not-inner t c =
    let own = rw c.list.ensures.nodes at (rw c.in-Some.is at c.in_ok-inner.ensures) in
    IsFrontOfOwn-some _ _ _ c.in-Some.inner c.if-not-inner.true (rw c.at_end.ensures at own)

pub front_of_own-returns : goal.front_of_own-returns
front_of_own-returns t c =
    let own = rw c.list.ensures.nodes at (rw c.in-Some.is at c.in_ok-inner.ensures) in
    let after : c.args.after.now ≡ Some c.in-Some-after.after = c.in-Some-after.is in
    rw after (lifted _ _ c.joined.result (λ f both. IsFrontOfOwn-none _ _ c.in-Some.inner c.in-Some-after.after f
    both.0 both.1 both.2 both.3 (rw c.at_end.ensures at own)) c.joined.ensures)

pub front_of_both-returns : goal.front_of_both-returns
front_of_both-returns t c =
    let own = rw c.list.ensures.nodes at (rw c.in-Some.is at c.in_ok-inner.ensures) in
    let after : c.args.after.now ≡ Some c.in-Some-after.after = c.in-Some-after.is in
    rw after (lifted _ _ c.joined.result (λ f both. IsFrontOfBoth _ _ _ c.in-Some.inner c.in-Some-after.after f
    both.0 both.1 both.2 both.3 (rw c.at_end.ensures at own)) c.joined.ensures)

pub front_of_repeat-returns-then-least-gt0 : goal.front_of_repeat-returns-then-least-gt0
front_of_repeat-returns-then-least-gt0 t c =
    let more = copied_more c.args.after.now c.in_ok-copied.field-0 c.with_visits-again.result 1 c.in_ok-copied.ensures
    c.with_visits-again.ensures in
    let inner = rw c.list.ensures.nodes at (rw c.in-Some.is at c.in_ok-inner.ensures) in
    IsFrontOfRepeat-some _ _ _ _ _ c.in-Some.inner c.if-least-gt0.true more inner

pub front_of_repeat-returns : goal.front_of_repeat-returns
front_of_repeat-returns t c =
    let after : c.args.after.now ≡ Some c.in-Some-after.after = c.in-Some-after.is in
    let more = rw after at (copied_more c.args.after.now c.in_ok-copied.field-0 c.with_visits-again.result 1
    c.in_ok-copied.ensures c.with_visits-again.ensures) in
    let inner = rw c.list.ensures.nodes at (rw c.in-Some.is at c.in_ok-inner.ensures) in
    rw after (lifted _ _ c.joined_ways.result
    (λ f both. IsFrontOfRepeat-none _ _ _ c.in-Some-after.after c.in-Some.inner f c.with_visits-again.result more
    both.0 both.1 both.2 inner) c.joined_ways.ensures)
