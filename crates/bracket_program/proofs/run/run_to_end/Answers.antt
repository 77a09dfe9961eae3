use Rattle.std.proofs.Common.{◌∙◌, sym, map, refl}
use Rattle.std.specs.Prelude.{string_bytes}
use Rattle.bracket_program.specs.Sessions.{session_in}
use Rattle.bracket_program.proofs.RunLaws.{run-answered, run-wanting, ends_for, made_text}
use Rattle.bracket_program.proofs.run.run_to_end.Goals as goal

pub answer-requires-clause-made : goal.answer-requires-clause-made
answer-requires-clause-made g c =
    let opened = c.in-Ok-open_document.ensures.opens in
    made_text c.in-Some.request _ opened.inputs (session_in c.in-Ok-open_document.document) c.request.view_is opened.is

pub returns-in-Ok-open_document-clause-ends : goal.returns-in-Ok-open_document-clause-ends
returns-in-Ok-open_document-clause-ends g c =
    let opened = c.in-Ok-open_document.ensures.opens in
    run-answered _ _ _ _ _ _ c.in-Some.request opened.inputs (session_in c.in-Ok-open_document.document) c.answer.result
    (sym c.in-Ok.ensures.request ∙ c.in-Some.is) opened.opens opened.is c.in-Ok-open_document.ensures.counts
    (ends_for _ _ _ _ _ _ c.request.view_is c.answer.ensures.ends)

pub returns-in-Err-clause-ends : goal.returns-in-Err-clause-ends
returns-in-Err-clause-ends g c = run-wanting _ _ _ _ _ _ (λ q. refl) refl
