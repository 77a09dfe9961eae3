use Rattle.std.proofs.Common.{ap, subst, ◌∙◌, arith}
use Rattle.char_sets.specs.Ranges.{rises, AreBitsOf}
use Rattle.char_sets.proofs.Rising.{rises-one}
use Rattle.char_sets.proofs.char_set.CharSet.of_range.Goals as goal

pub bits_of-requires-clause-rising : goal.bits_of-requires-clause-rising
bits_of-requires-clause-rising c =
    ap (rises 0) c.as_slice.ensures ∙ rises-one c.args.range c.requires.ordered (omega (arith, c.requires.within))

pub bits_of-requires-2-clause-rising : goal.bits_of-requires-2-clause-rising
bits_of-requires-2-clause-rising c =
    ap (rises 0) c.as_slice-2.ensures ∙ rises-one c.args.range c.requires.ordered (omega (arith, c.requires.within))

pub invariant_of-result : goal.invariant_of-result
invariant_of-result c = (
  rises-one c.args.range c.requires.ordered (omega (arith, c.requires.within)),
  subst (λ rs. AreBitsOf c.bits_of.result rs 0) c.as_slice.ensures c.bits_of.ensures,
  subst (λ rs. AreBitsOf c.bits_of-2.result rs 64) c.as_slice-2.ensures c.bits_of-2.ensures,
)
