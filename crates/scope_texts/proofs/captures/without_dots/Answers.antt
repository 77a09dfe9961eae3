use Rattle.std.proofs.Common.{◌∙◌, ap, drop}
use Rattle.scope_texts.proofs.Dots.{drop-dots}
use Rattle.scope_texts.proofs.captures.without_dots.Goals as goal

pub returns : goal.returns
returns c =
    c.behind.ensures ∙ (ap (λ k. drop k c.args.text.now) c.dot_count.ensures.count ∙ drop-dots c.args.text.now)
