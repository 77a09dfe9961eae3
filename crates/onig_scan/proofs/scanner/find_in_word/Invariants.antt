use Rattle.std.proofs.Common.{◌≡◌, ℕ, ◌+◌, ◌-◌, ◌≤◌}
use Rattle.std.specs.Int.{bit_at}
use Rattle.onig_scan.specs.Rows.{GoesOn}
use Rattle.onig_scan.proofs.scanner.find_in_word.Given as goal

-- the patterns so far are passed, and the bits of the others are left
abbrev pub invariant-loop-left : goal.invariant-loop-left
invariant-loop-left l = record {
  low : l.first ≤ l.index;
  high : l.index ≤ l.first + 64;
  bits : (j : ℕ) → bit_at l.left j ≡ bit_at l.word ((l.index - l.first) + j);
  on : GoesOn l.entries l.first l.index l.at l.text l.flags l.fn.work l.work;
}

abbrev pub decreases-loop-left : goal.decreases-loop-left
decreases-loop-left l = l.first + 64 - l.index
