use Rattle.std.proofs.Common.{◌≡◌, length, map}
use Rattle.std.specs.Prelude.{All}
use Rattle.rule_table.specs.Fits.{IsRule}
use Rattle.rule_table.specs.Views.{rule_of}
use Rattle.line_machine_tests.specs.declared.rows.TheConstants.{GROUPS}
use Rattle.line_machine_tests.proofs.rows.table.Given as goal

abbrev pub invariant-loop-row : goal.invariant-loop-row
invariant-loop-row l = record {
  count : length l.rules.items ≡ l.row-index;
  fit : All (IsRule l.count GROUPS) (map rule_of l.rules.items);
}
