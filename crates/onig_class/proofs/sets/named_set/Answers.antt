use Rattle.char_sets.proofs.Sets.{IfOk-IsSetOf}
use Rattle.onig_class.proofs.SideLemmas.{named-complement}
use Rattle.onig_class.proofs.sets.named_set.Goals as goal

pub returns : goal.returns
returns c =
    IfOk-IsSetOf c.get.result _ _ c.get.ensures (λ d lt. named-complement c.args.negated c.args.set d)
