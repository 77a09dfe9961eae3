use Rattle.std.proofs.Common.{◌≡◌, ◌<◌, ◌^◌, get_or, sym, ◌∙◌, arith}
use Rattle.scope_texts.proofs.Filled.{form_at-named}
use Rattle.scope_texts.proofs.names.form_at.Goals as goal

pub returns-in-Some-clause-form : goal.returns-in-Some-clause-form
returns-in-Some-clause-form c =
    let is : get_or c.args.text.now 0 c.index-text-0.result ≡ 36 = sym c.index-text-0.is ∙ c.if-text-ne36.false in
    let small : c.args.groups < 2 ^ 32 = omega arith in
    c.named.ensures ∙
    form_at-named c.args.text.now c.args.groups c.index-text-0.result c.in-Some.form is small
    (sym c.in-Some.is ∙ (rw c.behind.ensures at c.form_behind.ensures.form)) c.requires
