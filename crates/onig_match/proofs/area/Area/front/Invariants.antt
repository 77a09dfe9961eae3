use Rattle.std.proofs.Common.{◌≡◌, length}
use Rattle.onig_match.specs.Machine.{todo_of}
use Rattle.onig_match.specs.Sound.{IsRest}
use Rattle.onig_match.proofs.area.Area.front.Given as goal

abbrev pub invariant-loop-rest : goal.invariant-loop-rest
invariant-loop-rest l = record {
  todo : todo_of l.on.pattern.now.lists l.self.cells.items l.rest
      ≡ todo_of l.on.pattern.now.lists l.self.cells.items l.initial.rest;
  inside : IsRest l.on.pattern.now (length l.self.cells.items) l.rest;
}

abbrev pub decreases-loop-rest : goal.decreases-loop-rest
decreases-loop-rest l = l.rest.next
