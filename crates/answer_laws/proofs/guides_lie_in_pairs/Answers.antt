use Rattle.answer_laws.proofs.GuideLemmas.{guides_lie_in_pairs}
use Rattle.answer_laws.proofs.guides_lie_in_pairs.Goals as goal

pub returns : goal.returns
returns c = guides_lie_in_pairs
