use Rattle.std.proofs.Common.{◌<◌, length, arith}
use Rattle.std.proofs.lemmas.Bool.Decides.{nat_tests}
use Rattle.scope_texts.proofs.Filled.{pushed_text, end_text-digits}
use Rattle.scope_texts.proofs.ends.push_front.Goals as goal

pub returns-clause-bytes : goal.returns-clause-bytes
returns-clause-bytes c =
    let some : 0 < length c.reference_at-digits.result.now = grind (arith, nat_tests) in
    let taken = c.captured.ensures _ c.number_of.ensures in
    pushed_text _ _ _ _ _ (rw taken at c.in_ok-push_escaped.ensures)
    (end_text-digits c.args.text.now c.args.work.now.hit c.args.rest.now c.reference_at-digits.result.now
    c.reference_at-digits.ensures.digits some)
