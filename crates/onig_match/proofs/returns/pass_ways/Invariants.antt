use Rattle.std.proofs.Common.{◌+◌, ◌-◌, ◌≤◌, ◌^◌, length}
use Rattle.onig_match.specs.Machine.{subject, ids_at}
use Rattle.onig_match.specs.Sound.{PassesWays}
use Rattle.onig_match.proofs.returns.pass_ways.Given as goal

abbrev pub invariant-loop-ways : goal.invariant-loop-ways
invariant-loop-ways l = record {
  passes : PassesWays (subject l.on) (ids_at l.on.pattern.now.lists l.node) l.at l.way l.ways.way l.ways.more;
  few : l.ways.more ≤ 2 ^ 32 + 2;
}

abbrev pub decreases-loop-ways : goal.decreases-loop-ways
decreases-loop-ways l = length (ids_at l.on.pattern.now.lists l.node) - l.ways.way
