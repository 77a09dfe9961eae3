use Rattle.std.proofs.Common.{◌+◌, ◌*◌, arith}
use Rattle.generator_defs.specs.GeneratedText.{piece}
use Rattle.text_maker.proofs.GeneratedTexts.{pieces_more, pieces_all}
use Rattle.text_maker.proofs.texts.push_line.Goals as goal

pub loop-p-preserved : goal.loop-p-preserved
loop-p-preserved c =
    pieces_more (λ p. piece (3 * c.args.i + 5 * p + c.args.i * p + c.args.n)) _ _ _ _ _ c.loop-p.invariant c.piece.ensures.piece c.in_ok-push.ensures.items

pub returns : goal.returns
returns c = pieces_all c.args.n c.args.i _ _ _ (omega arith) c.loop-p.invariant
