use Rattle.std.proofs.Common.{◌≡◌, length}
use Rattle.onig_scan.specs.declared.rows.TheConstants.{ROW_VISITS}
use Rattle.onig_scan.specs.Rows.{AreRows}
use Rattle.onig_scan.proofs.rows.rows_of.Given as goal

-- the words so far
abbrev pub invariant-loop-k : goal.invariant-loop-k
invariant-loop-k l = record {
  size : length l.rows.items ≡ l.k;
  are : AreRows l.entries l.words ROW_VISITS l.rows.items;
}
