use Rattle.std.proofs.Common.{◌-◌}
use Rattle.char_sets.specs.Keep.{kept}
use Rattle.char_sets.specs.Places.{IsReached}
use Rattle.char_sets.specs.Ranges.{in_set}
use Rattle.char_sets.proofs.Joined.{Joined}
use Rattle.char_sets.proofs.algebra.merged.Given as goal

abbrev pub invariant-loop-at : goal.invariant-loop-at
invariant-loop-at l = record {
  so_far : Joined l.ranges.items l.start l.at (λ c. kept l.fn.keep (in_set l.a c) (in_set l.b c));
  first : IsReached l.a l.in_a l.at;
  second : IsReached l.b l.in_b l.at;
}

abbrev pub decreases-loop-at : goal.decreases-loop-at
decreases-loop-at l = 1_114_112 - l.at
