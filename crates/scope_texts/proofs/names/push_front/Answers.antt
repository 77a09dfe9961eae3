use Rattle.std.proofs.Common.{◌≡◌, ◌-◌, length}
use Rattle.std.specs.Prelude.{Some, None}
use Rattle.scope_texts.specs.Forms.{front_form}
use Rattle.scope_texts.proofs.Filled.{pushed_text, pushed_char, FillsForm, filled-form, filled-char}
use Rattle.scope_texts.proofs.names.push_front.Goals as goal

pub returns-in_ok-push_captured-in-Some-clause-bytes : goal.returns-in_ok-push_captured-in-Some-clause-bytes
returns-in_ok-push_captured-in-Some-clause-bytes c =
    let e : front_form (length c.args.work.now.hit - 1) c.args.rest.now ≡ Some c.in-Some.form = cc in
    let fills : FillsForm c.args.text.now c.args.work.now.hit c.in-Some.form _ _ =
    filled-form c.args.text.now c.args.work.now.hit c.args.rest.now c.in-Some.form e in
    let taken = c.captured.ensures fills.number fills.kept in
    pushed_text _ _ _ _ _ (rw taken at c.in_ok-push_captured-in-Some.ensures) fills.fills

pub returns-in_ok-push-in-None-clause-bytes : goal.returns-in_ok-push-in-None-clause-bytes
returns-in_ok-push-in-None-clause-bytes c =
    let e : front_form (length c.args.work.now.hit - 1) c.args.rest.now ≡ None = cc in
    pushed_char _ _ c.index-rest-0.result _ _ c.in_ok-push-in-None.ensures.bytes
    (rw (← c.index-rest-0.is) at
    (filled-char c.args.text.now c.args.work.now.hit c.args.rest.now c.index-rest-0.result e c.requires.some))
