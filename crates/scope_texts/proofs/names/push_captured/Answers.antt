use Rattle.scope_texts.proofs.Filled.{cased_more}
use Rattle.scope_texts.proofs.names.push_captured.Goals as goal

pub loop-c-preserved : goal.loop-c-preserved
loop-c-preserved c =
    cased_more c.args.case c.without_dots-c-items.result.now c.loop-c.c-index c.c-item.result _ _ _ c.in_case.result
    c.loop-c.invariant c.in_ok-push.ensures.bytes c.in_case.ensures c.c-item.is c.loop-c-test.true
