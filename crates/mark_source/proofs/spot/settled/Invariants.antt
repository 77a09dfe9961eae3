use Rattle.std.proofs.Common.{◌≡◌, ◌-◌, ◌<◌, ◌≤◌, length}
use Rattle.mark_source.specs.Reading.{from_spot, marks_at}
use Rattle.mark_source.proofs.spot.settled.Given as goal

abbrev pub invariant-loop-spot : goal.invariant-loop-spot
invariant-loop-spot l = record {
  there : l.spot.line < length l.lines;
  within : l.spot.index ≤ length (marks_at l.lines l.spot.line);
  same : from_spot l.lines l.spot ≡ from_spot l.lines l.fn.from;
}

abbrev pub decreases-loop-spot : goal.decreases-loop-spot
decreases-loop-spot l = length l.lines - l.spot.line
