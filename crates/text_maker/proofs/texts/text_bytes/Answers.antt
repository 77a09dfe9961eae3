use Rattle.std.proofs.Common.{arith}
use Rattle.text_maker.proofs.GeneratedTexts.{lines_more, lines_all}
use Rattle.text_maker.proofs.texts.text_bytes.Goals as goal

pub loop-i-preserved : goal.loop-i-preserved
loop-i-preserved c =
    lines_more c.args.n c.loop-i.i _ _ _ (omega arith) c.loop-i.invariant c.in_ok-push.ensures.items c.in_ok-push_line-2.ensures

pub returns : goal.returns
returns c = lines_all c.args.n c.loop-i.i _ (omega arith) c.loop-i.invariant
