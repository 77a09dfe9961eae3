use Rattle.std.proofs.Common.{◌≡◌, ◌<◌, length, false, sym, ◌∙◌, arith, rules}
use Rattle.std.proofs.lemmas.Grind.{common_steps}
use Rattle.agreement_check.proofs.Laying.{places_after, joint_after, none_in_order, none_fit}
use Rattle.agreement_check.proofs.laid.places_of.Goals as goal

pub loop-change-preserved : goal.loop-change-preserved
loop-change-preserved c =
    let pushed = c.in_ok-push.ensures.ok in
    let before = c.loop-change.invariant in
    let is = c.in-Some.ensures.place in
    let order = c.spans-in-loop-change.invariant.order in
    let view = c.spans-in-loop-change.view_is in
    record {
      spans = grind (arith, common_steps);
      places = places_after c.loop-change.joint _ _ _ _ _ _ pushed c.in_ok-push-2.ensures.items before.places is before.joint;
      joint = joint_after c.loop-change.joint _ _ _ _ pushed is before.joint;
      order = cc;
    }

pub returns-then-not-is_less-clause-none : goal.returns-then-not-is_less-clause-none
returns-then-not-is_less-clause-none c = λ order fit. let before = c.loop-change.invariant in
    let some : 0 < length c.loop-change.places.items = search rules in
    let no : c.is_less.result ≡ false = search rules in
    none_in_order _ _ _ c.loop-change.change-index c.loop-change.joint _ before.places some before.joint
    (sym c.is_less.ensures ∙ no) before.spans c.loop-change-test.true order

pub returns-in_default-clause-none : goal.returns-in_default-clause-none
returns-in_default-clause-none c = λ order fit. let before = c.loop-change.invariant in
    none_fit _ _ c.loop-change.change-index c.loop-change.joint _ before.joint c.in_default.ensures.none before.spans
    c.loop-change-test.true fit
