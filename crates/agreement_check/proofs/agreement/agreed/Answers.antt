use Rattle.std.proofs.Common.{◌≡◌, rules, sym, subst}
use Rattle.agreement_check.specs.Checks.{AreAgreed, MayBeReused, AgreeBy, marked_text}
use Rattle.agreement_check.proofs.Agreeing.{agrees, may_be_reused, not_agreed}
use Rattle.agreement_check.proofs.agreement.agreed.Goals as goal

pub returns-then-branch-clause-agreed : goal.returns-then-branch-clause-agreed
returns-then-branch-clause-agreed c = record { order = search rules; agree = agrees _ _ _ (search rules) (search rules) }

pub returns-then-branch-clause-reuse : goal.returns-then-branch-clause-reuse
returns-then-branch-clause-reuse c =
    let spans : c.in-Some.laid.spans ≡ c.args.changes.now = search rules in
    let are : AreAgreed c.args.changes.now c.args.old.now c.args.new.now = record { order = search rules; agree = agrees _ _ _ (search rules) (search rules) } in
    subst (λ cs. MayBeReused cs c.args.old.now c.args.new.now) (sym spans)
    (may_be_reused c.args.changes.now c.args.old.now c.args.new.now c.requires.marked c.requires.old are)

pub returns-else-branch-clause-none : goal.returns-else-branch-clause-none
returns-else-branch-clause-none c = λ fit are.
    let refused : (AgreeBy c.in-Some.laid.places.items c.in_ok-back.back.items c.in_ok-old.old c.in_ok-new.new) → ⊥ = search rules in
    not_agreed c.args.changes.now c.in-Some.laid.places.items c.in_ok-back.back.items (marked_text c.args.old.now)
    (marked_text c.args.new.now) c.in_ok-old.old c.in_ok-new.new refused (search rules) (search rules) c.in_ok-old.ensures.text
    c.in_ok-new.ensures.text c.in_ok-new.ensures.few c.in_ok-new.ensures.narrow are.order are.agree
