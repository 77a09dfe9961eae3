use Rattle.std.proofs.Common.{◌∙◌}
use Rattle.std.proofs.lemmas.Result.{err_from_is_err_and}
use Rattle.bracket_program.proofs.OpenLaws.{document_opens, brackets_unopened}
use Rattle.bracket_program.proofs.open.open_document.Goals as goal

pub returns-in_err-brackets-clause-ends : goal.returns-in_err-brackets-clause-ends
returns-in_err-brackets-clause-ends g c =
    let p = err_from_is_err_and c.from_residual-in_err-brackets.result
    c.from_residual-in_err-brackets.ensures.1 in
    rw (p.1, p.2, ← c.request.view_is) (brackets_unopened _ _ _ c.in_ok-text.ensures.contents
    (λ q. c.in_ok-machine.ensures.contents q ∙ c.in_ok-text.ensures.contents q) _ _ _
    (λ q. c.in_ok-machine.ensures.counts q ∙ c.in_ok-text.ensures.counts q) _ _ _ c.in_ok-text.ensures.opens
    c.in_ok-machine.ensures.opens _ c.in_err-brackets.ensures.ends)

pub returns-clause-opens : goal.returns-clause-opens
returns-clause-opens g c =
    rw (← c.request.view_is) (document_opens _ _ _ c.in_ok-text.ensures.contents
    (λ q. c.in_ok-machine.ensures.contents q ∙ c.in_ok-text.ensures.contents q) _ _ _ _ c.in_ok-text.ensures.opens
    c.in_ok-machine.ensures.opens c.in_ok-brackets.ensures.opens _ c.in_ok-document.ensures.text
    c.in_ok-document.ensures.machine c.in_ok-document.ensures.texts c.in_ok-document.ensures.limits)
