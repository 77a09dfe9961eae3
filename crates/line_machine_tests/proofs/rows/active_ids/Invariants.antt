use Rattle.std.proofs.Common.{ℕ, ◌<◌, map}
use Rattle.std.specs.Prelude.{All}
use Rattle.line_machine_tests.proofs.rows.active_ids.Given as goal

abbrev pub invariant-loop-id : goal.invariant-loop-id
invariant-loop-id l = All (λ (id : ℕ). id < l.count) (map (λ id. id.0) l.ids)
