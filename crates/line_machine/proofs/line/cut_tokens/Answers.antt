use Rattle.std.proofs.Common.{◌∙◌}
use Rattle.line_machine.proofs.Cuts.{cut-more}
use Rattle.line_machine.proofs.line.cut_tokens.Goals as goal

pub loop-token-preserved : goal.loop-token-preserved
loop-token-preserved c =
    cut-more c.args.chars c.loop-token.all _ c.args.tokens.now c.loop-token.token-index c.token-item.result _
    c.loop-token-test.true c.token-item.is c.in_ok-cut_token.ensures c.in_ok-push.ensures.ok ∙ c.loop-token.invariant
