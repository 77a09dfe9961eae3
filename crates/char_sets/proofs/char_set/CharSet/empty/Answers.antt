use Rattle.std.proofs.lemmas.Nat.Bits.{bit_at-zero}
use Rattle.char_sets.proofs.Rising.{rises-nil}
use Rattle.char_sets.proofs.char_set.CharSet.empty.Goals as goal

pub invariant_of-result : goal.invariant_of-result
invariant_of-result c = (rises-nil 0, λ k lt. bit_at-zero k, λ k lt. bit_at-zero k)
