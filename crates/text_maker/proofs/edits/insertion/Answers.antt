use Rattle.std.proofs.Common.{◌≡◌, [], ◌∷◌, ◌<◌, arith}
use Rattle.text_maker.proofs.EditTexts.{IfOk-edit, chars-one}
use Rattle.text_maker.proofs.edits.insertion.Goals as goal

pub returns : goal.returns
returns c =
    let ascii : c.from.result < 128 = omega arith in
    let one : c.as_str.result.now ≡ c.args.c ∷ [] =
    cc (c.as_str.ensures.value, c.in_ok-push.ensures.bytes, c.push.ensures.ascii ascii, c.new-text.ensures.bytes, c.from.ensures) in
    IfOk-edit _ _ _ _ c.new.ensures.span c.new.ensures.text (chars-one _ c.args.c c.requires one)
