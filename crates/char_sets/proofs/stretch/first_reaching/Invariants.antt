use Rattle.std.proofs.Common.{◌-◌, ◌≡◌, ◌≤◌, ◌<◌, ℕ, length, drop, get_or}
use Rattle.char_sets.specs.Ranges.{in_set}
use Rattle.char_sets.specs.declared.char_set.CharRange.{CharRange}
use Rattle.char_sets.proofs.stretch.first_reaching.Given as goal

abbrev pub invariant-loop-low : goal.invariant-loop-low
invariant-loop-low l = record {
  ordered : l.low ≤ l.high;
  within : l.high ≤ length l.ranges;
  before : (c : ℕ) → l.code ≤ c → in_set l.ranges c ≡ in_set (drop l.low l.ranges) c;
  reaches : (d : CharRange) → l.high < length l.ranges → l.code ≤ (get_or l.ranges l.high d).last;
}

abbrev pub decreases-loop-low : goal.decreases-loop-low
decreases-loop-low l = l.high - l.low
