use Rattle.std.proofs.Common.{◌<◌, arith}
use Rattle.std.proofs.lemmas.List.Elements.{All-more}
use Rattle.line_search.proofs.choices.has_codes.Goals as goal

pub loop-c-preserved : goal.loop-c-preserved
loop-c-preserved c =
    All-more (λ x. x < 1_114_112) c.args.text.now c.loop-c.c-index c.c-item.result c.loop-c-test.true
    c.loop-c.invariant (omega arith)
