use Rattle.onig_parse.proofs.PlainTexts.{plain_texts_are_read as law}
use Rattle.onig_parse.proofs.laws.plain_texts_are_read.Goals as goal

pub returns : goal.returns
returns c = law
