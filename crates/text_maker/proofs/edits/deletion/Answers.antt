use Rattle.std.proofs.lemmas.Str.{chars-nil}
use Rattle.text_maker.proofs.EditTexts.{IfOk-edit}
use Rattle.text_maker.proofs.edits.deletion.Goals as goal

pub returns : goal.returns
returns c = IfOk-edit _ _ _ _ c.new.ensures.span c.new.ensures.text chars-nil
