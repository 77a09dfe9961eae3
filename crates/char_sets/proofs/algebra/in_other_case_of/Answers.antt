use Rattle.std.proofs.Common.{◌+◌, ap, sym, subst, ◌∙◌, arith}
use Rattle.char_sets.specs.Case.{is_missing}
use Rattle.char_sets.proofs.Letters.{Letters, Letters-start, Letters-push, Letters-skip, Letters-done}
use Rattle.char_sets.proofs.algebra.in_other_case_of.Goals.{then-is_missing+in_ok-push, else-is_missing}
use Rattle.char_sets.proofs.algebra.in_other_case_of.Goals as goal

pub loop-code-init : goal.loop-code-init
loop-code-init c =
    subst (λ rs. Letters rs 65 (is_missing c.args.set.now)) (sym c.new-out.ensures.items) (Letters-start c.args.set.now)

pub loop-code-preserved : goal.loop-code-preserved
loop-code-preserved c =
    let code = c.loop-code.code in
    let p = is_missing c.args.set.now in
    elim c.if-is_missing.branch [
      | then-is_missing+in_ok-push w ↦
          subst (λ rs. Letters rs (code + 1) p) (sym (ap (λ v. v.items) w.out-is ∙ w.in_ok-push.ensures.items))
          (Letters-push c.loop-code.out.items code p c.loop-code.invariant (omega (arith, c.loop-code-test.true))
          (sym c.is_missing.ensures ∙ w.if-is_missing.true))
      | else-is_missing w ↦
          subst (λ rs. Letters rs (code + 1) p) (sym (ap (λ v. v.items) w.out-is))
          (Letters-skip c.loop-code.out.items code p c.loop-code.invariant
          (sym c.is_missing.ensures ∙ w.if-is_missing.false))
    ]

pub returns-clause-rising : goal.returns-clause-rising
returns-clause-rising c = c.loop-code.invariant.rising

pub returns-clause-members : goal.returns-clause-members
returns-clause-members c =
    Letters-done c.loop-code.out.items c.loop-code.code c.args.set.now c.loop-code.invariant c.loop-code-test.false
