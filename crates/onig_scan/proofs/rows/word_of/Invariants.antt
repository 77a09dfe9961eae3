use Rattle.std.proofs.Common.{◌≡◌, ℕ, ◌+◌, ◌<◌}
use Rattle.std.specs.Prelude.{IfSome, slice_get}
use Rattle.std.specs.Int.{bit_at}
use Rattle.onig_scan.specs.declared.rows.TheConstants.{ROW_VISITS}
use Rattle.onig_scan.specs.Rows.{IsSpared}
use Rattle.onig_scan.proofs.rows.word_of.Given as goal

-- what the bits so far say
abbrev pub invariant-loop-k : goal.invariant-loop-k
invariant-loop-k l = (j : ℕ) → j < l.k → bit_at l.word j ≡ 0
    → IfSome (slice_get l.entries (l.first + j)) (λ tree. IsSpared tree l.row ROW_VISITS)
