use Rattle.std.proofs.Common.{◌≡◌, ◌∙◌, ◌+◌, ap, sym, subst, [], ◌∷◌}
use Rattle.std.specs.Prelude.{None}
use Rattle.text_defs.specs.Batch.{batch_refusal, edited}
use Rattle.line_text.specs.BatchRefusals.{HasCause}
use Rattle.generator_defs.specs.GeneratedText.{generated_edit, text_after}
use Rattle.text_maker.proofs.MadeEdits.{made_edit-accepted, text_after-next}
use Rattle.bracket_program.proofs.summaries.make_next.Goals as goal

pub returns-in-Ok-clause-text : goal.returns-in-Ok-clause-text
returns-in-Ok-clause-text c =
    let lines = c.args.lines in
    let next = c.args.made + 1 in
    let batch : c.as_slice.result.now ≡ generated_edit lines next c.args.document.now.text ∷ [] =
    c.as_slice.ensures ∙ (c.in_ok-edits.ensures ∙ ap (λ t. generated_edit lines next t ∷ []) c.text.ensures) in
    c.in-Ok.ensures.text
    ∙ (ap (edited c.args.document.now.text) batch
    ∙ (ap (λ t. edited t (generated_edit lines next t ∷ [])) c.requires.text
    ∙ sym (text_after-next lines c.args.made)))

pub want_of_memory-requires : goal.want_of_memory-requires
want_of_memory-requires c =
    let lines = c.args.lines in
    let next = c.args.made + 1 in
    let batch : c.as_slice.result.now ≡ generated_edit lines next c.args.document.now.text ∷ [] =
    c.as_slice.ensures ∙ (c.in_ok-edits.ensures ∙ ap (λ t. generated_edit lines next t ∷ []) c.text.ensures) in
    let none = ap (batch_refusal c.args.document.now.text) batch
    ∙ (ap (λ t. batch_refusal t (generated_edit lines next t ∷ [])) c.requires.text
    ∙ made_edit-accepted lines c.args.made c.requires.some c.requires.few c.requires.left) in
    subst (λ cause. HasCause cause c.in-Err.refusal) none c.in-Err.ensures.refused
