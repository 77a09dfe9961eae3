use Rattle.std.proofs.Common.{refl}
use Rattle.generator_defs.specs.GeneratedText.{piece}
use Rattle.text_maker.proofs.pieces.piece.Goals as goal

pub returns-clause-piece : goal.returns-clause-piece
unfolding piece
returns-clause-piece c = refl
