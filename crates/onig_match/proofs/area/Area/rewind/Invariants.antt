use Rattle.std.proofs.Common.{◌≡◌, ◌+◌, length}
use Rattle.onig_match.specs.Machine.{captures_at, kept}
use Rattle.onig_match.specs.Sound.{AreChanges}
use Rattle.onig_match.proofs.area.Area.rewind.Given as goal

abbrev pub invariant-loop-self : goal.invariant-loop-self
invariant-loop-self l = record {
  captures : captures_at l.trail l.self.trail.items l.self.captures.items
      ≡ captures_at l.trail l.initial.self.trail.items l.initial.self.captures.items;
  kept : kept l.trail l.self.trail.items ≡ kept l.trail l.initial.self.trail.items;
  changes : AreChanges l.on.pattern.now (length l.on.text.now) l.self.trail.items;
  groups : length l.self.captures.items ≡ l.on.pattern.now.groups + 1;
  captures_room : l.self.captures.room ≡ l.initial.self.captures.room;
  trail_room : l.self.trail.room ≡ l.initial.self.trail.room;
  cells : l.self.cells ≡ l.initial.self.cells;
  entries : l.self.entries ≡ l.initial.self.entries;
}

abbrev pub decreases-loop-self : goal.decreases-loop-self
decreases-loop-self l = length l.self.trail.items
