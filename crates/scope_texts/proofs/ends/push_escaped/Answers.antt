use Rattle.scope_texts.proofs.Filled.{escaped_more}
use Rattle.scope_texts.proofs.ends.push_escaped.Goals as goal

pub loop-c-preserved : goal.loop-c-preserved
loop-c-preserved c =
    escaped_more c.args.text.now c.loop-c.c-index c.c-item.result _ _ _
    c.loop-c.invariant c.in_ok-push_one.ensures c.c-item.is c.loop-c-test.true
