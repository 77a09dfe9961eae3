use Rattle.std.proofs.Common.{◌≡◌, drop}
use Rattle.std.specs.Prelude.{filter, nat_le}
use Rattle.onig_match.proofs.returns.first_within.Given as goal

abbrev pub invariant-loop-k : goal.invariant-loop-k
invariant-loop-k l = filter (λ a. nat_le a.length l.at) (drop l.k l.arms)
    ≡ filter (λ a. nat_le a.length l.at) (drop l.arm l.arms)
