use Rattle.std.proofs.Common.{◌≡◌, ◌+◌, ◌*◌, length, []}
use Rattle.pattern_defs.specs.Attempt.{before}
use Rattle.onig_match.specs.Goes.{goes}
use Rattle.onig_match.specs.Machine.{subject, means, rank}
use Rattle.onig_match.specs.Sound.{IsSound, IsStep, HasRoom, SameRooms}
use Rattle.onig_match.proofs.area.Area.run.Given as goal

abbrev pub invariant-loop-step : goal.invariant-loop-step
invariant-loop-step l = record {
  ends : means (subject l.on) l.self l.step l.left
      ≡ goes (subject l.on) (before l.on.pattern.now.lists l.on.pattern.now.top []) l.at l.initial.self.captures.items
      l.budget;
  sound : IsSound l.on l.self;
  step : IsStep l.on (length l.self.cells.items) l.step;
  room : HasRoom l.self l.left;
  rooms : SameRooms l.initial.self l.self;
}

abbrev pub decreases-loop-step : goal.decreases-loop-step
decreases-loop-step l = 4 * l.left + 2 * length l.self.entries.items + rank l.step
