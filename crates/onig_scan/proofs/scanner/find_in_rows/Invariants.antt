use Rattle.std.proofs.Common.{◌*◌}
use Rattle.onig_scan.specs.Rows.{GoesOn}
use Rattle.onig_scan.proofs.scanner.find_in_rows.Given as goal

-- the patterns so far are passed
abbrev pub invariant-loop-k : goal.invariant-loop-k
invariant-loop-k l = GoesOn l.entries 0 (64 * l.k) l.at l.text l.flags l.fn.work l.work
