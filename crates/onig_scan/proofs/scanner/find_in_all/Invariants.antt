use Rattle.onig_scan.specs.Rows.{GoesOn}
use Rattle.onig_scan.proofs.scanner.find_in_all.Given as goal

-- the patterns so far are passed
abbrev pub invariant-loop-index : goal.invariant-loop-index
invariant-loop-index l = GoesOn l.entries 0 l.index l.at l.text l.flags l.fn.work l.work
