use Rattle.std.proofs.Common.{◌<◌, ◌≤◌, ◌-◌, length, take}
use Rattle.line_list.specs.Parts.{items_of}
use Rattle.line_list.proofs.pieces.part_with.Given as goal

abbrev pub invariant-loop-high : goal.invariant-loop-high
invariant-loop-high g l = record {
  some : l.low < l.high;
  there : l.high ≤ length l.parts;
  begins : length (items_of (take l.low l.parts)) ≤ l.n;
  ends : l.n < length (items_of (take l.high l.parts));
}

abbrev pub decreases-loop-high : goal.decreases-loop-high
decreases-loop-high g l = l.high - l.low
