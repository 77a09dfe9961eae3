use Rattle.std.proofs.Common.{◌≡◌, true, sym, ap, ◌∙◌, subst}
use Rattle.change_defs.specs.declared.Joint.{Joint}
use Rattle.change_defs.specs.Changes.{is_less, first_joint, last_joint, end_joint, placed_at, placed_fits}
use Rattle.change_laws.proofs.Placing.{starts_from_last, last_more}
use Rattle.edit_mapper_tests.proofs.changes.changes_of.Goals.{in-Some+in_ok-push+in_ok-push-2, in_default}
use Rattle.edit_mapper_tests.proofs.changes.changes_of.Goals as goal

pub push-requires-clause-order : goal.push-requires-clause-order
push-requires-clause-order c = starts_from_last c.loop-piece.spans c.in-Some.next.change
    (subst (λ (j : Joint). is_less j.old c.in-Some.next.change.start ≡ true) (sym c.loop-piece.invariant) c.in-Some.ensures.order)

pub push-requires-clause-fits : goal.push-requires-clause-fits
push-requires-clause-fits c =
    subst (λ (j : Joint). placed_fits (placed_at j c.in-Some.next.change) ≡ true) (sym c.loop-piece.invariant) c.in-Some.ensures.fits

pub loop-piece-preserved : goal.loop-piece-preserved
loop-piece-preserved c = elim c.match-change_behind.branch [
  | in-Some+in_ok-push+in_ok-push-2 w ↦ ap (λ l. last_joint first_joint l) (w.spans-is ∙ w.in_ok-push.ensures.ok)
      ∙ last_more first_joint c.loop-piece.spans w.in-Some.next.change
      ∙ ap (λ (j : Joint). end_joint j w.in-Some.next.change) c.loop-piece.invariant
      ∙ sym w.in-Some.ensures.joint ∙ sym w.joint-is
  | in_default w ↦ ap (λ l. last_joint first_joint l) w.spans-is ∙ c.loop-piece.invariant ∙ sym w.joint-is
]
