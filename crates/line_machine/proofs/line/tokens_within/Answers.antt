use Rattle.std.proofs.Common.{[], ◌∷◌, ◌++◌, ap, sym, ◌∙◌}
use Rattle.scope_defs.specs.Frames.{Token}
use Rattle.line_machine.proofs.Cuts.{within-drop, within-keep}
use Rattle.line_machine.proofs.line.tokens_within.Goals as goal

pub returns-then-last-chars : goal.returns-then-last-chars
returns-then-last-chars c =
    within-drop c.args.chars c.args.tokens.now c.in-Some.front.now c.in-Some.last.now c.in_ok-all.all
    c.in-Some.ensures.cases.0 c.in_ok-all.ensures
    (ap (λ t. let token : Token = t in token.from) (sym c.last.view_is) ∙ c.if-last-chars.true)

pub returns : goal.returns
returns c =
    within-keep c.args.chars c.args.tokens.now c.in-Some.front.now c.in-Some.last.now c.in_ok-all.all _
    c.in-Some.ensures.cases.0 c.in_ok-all.ensures
    (λ e. c.if-last-chars.false (ap (λ t. let token : Token = t in token.from) c.last.view_is ∙ e))
    (c.in_ok-push.ensures.ok ∙ ap (λ t. c.in_ok-all.all ++ t ∷ []) c.in_ok-cut_token.ensures)
