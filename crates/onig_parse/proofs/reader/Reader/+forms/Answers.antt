use Rattle.std.proofs.Common.{◌<◌, sym, ◌∙◌, arith}
use Rattle.std.proofs.lemmas.Result.{err_from_is_err_and}
use Rattle.onig_parse.proofs.BodySteps.{body_at-none, body_at-steps, steps-more, steps-end, steps-out, steps-fails}
use Rattle.onig_parse.proofs.reader.Reader.+forms.Goals as goal

pub body-returns-then-levels-eq0 : goal.body-returns-then-levels-eq0
body-returns-then-levels-eq0 t c = rw c.from.ensures (body_at-none _ _ _ c.if-levels-eq0.true)

pub body-loop-left-init : goal.body-loop-left-init
body-loop-left-init t c =
    let some : 0 < c.args.levels = omega arith in
    record { some = some; rest = rw (c.text.ensures.text, c.new-body.ensures) (body_at-steps _ _ _ some) }

pub body-returns-in_err-step : goal.body-returns-in_err-step
body-returns-in_err-step t c =
    let p = err_from_is_err_and c.from_residual.result c.from_residual.ensures.1 in
    rw (p.1, p.2, ← c.loop-left.invariant.rest) (steps-fails _ _ _ _ _ _ _ (omega arith) c.in_err-step.ensures)

pub body-returns-then-not-branch : goal.body-returns-then-not-branch
body-returns-then-not-branch t c =
    sym c.loop-left.invariant.rest ∙ steps-end _ _ _ _ _ _ _ _ (omega arith)
    (rw c.if-not-branch.true at c.in_ok-step.ensures)

pub body-loop-left-preserved : goal.body-loop-left-preserved
body-loop-left-preserved t c = record {
  some = c.loop-left.invariant.some;
  rest = sym (steps-more _ _ _ _ _ _ _ _ (omega arith) (rw c.if-not-branch.false at c.in_ok-step.ensures))
      ∙ c.loop-left.invariant.rest;
}

pub body-returns : goal.body-returns
body-returns t c =
    rw (c.bad.ensures, c.here.ensures.extent) (sym c.loop-left.invariant.rest ∙ steps-out _ _ _ _ _ _ (omega arith))
