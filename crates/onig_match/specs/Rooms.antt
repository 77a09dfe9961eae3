-- The room for attempts, by its parts.
use Rattle.std.specs.Prelude.{◌≡◌, ◌<◌, ◌^◌}
use Rattle.onig_match.specs.Works.{Worked}
use Rattle.onig_match.specs.declared.work.Work.TheInside.{Inside}

abbrev pub worked_of : Inside → Worked
worked_of w = record { budget = w.budget; room = w.room; hit = w.hit.items }

pub record IsWork (w : Inside) : Type 0 where
  pub hit : w.hit.room ≡ w.room
  pub captures : w.area.captures.room ≡ w.room
  pub cells : w.area.cells.room ≡ w.budget
  pub entries : w.area.entries.room ≡ w.budget
  pub trail : w.area.trail.room ≡ w.budget
  pub small : w.room < 2 ^ 32
