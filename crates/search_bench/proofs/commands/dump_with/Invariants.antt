use Rattle.std.proofs.Common.{◌≡◌}
use Rattle.search_bench.proofs.commands.dump_with.Given as goal

-- the room stays
abbrev pub invariant-loop-row : goal.invariant-loop-row
invariant-loop-row l = l.work.room ≡ l.fn.work.room

abbrev pub invariant-loop : goal.invariant-loop
invariant-loop l = l.work.room ≡ l.fn.work.room
