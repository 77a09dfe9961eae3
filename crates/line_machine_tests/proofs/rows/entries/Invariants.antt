use Rattle.std.proofs.Common.{map}
use Rattle.std.specs.Prelude.{All}
use Rattle.rule_table.specs.Fits.{IsEntry}
use Rattle.rule_table.specs.Views.{entry_of}
use Rattle.line_machine_tests.proofs.rows.entries.Given as goal

abbrev pub invariant-loop-row : goal.invariant-loop-row
invariant-loop-row l = All (IsEntry l.count) (map entry_of l.all)
