use Rattle.std.proofs.Common.{ℕ, ◌<◌, ◌≤◌, All, get_or}
use Rattle.pattern_defs.specs.Patterns.{Tree}
use Rattle.onig_scan.proofs.scanner.most_groups.Given as goal

abbrev pub invariant-loop-entry : goal.invariant-loop-entry
invariant-loop-entry l = record {
  fits : (k : ℕ) (d : Tree) → k < l.entry-index → (get_or l.entries k d).groups ≤ l.most;
  least : (room : ℕ) → All (λ tree. tree.groups ≤ room) l.entries → l.most ≤ room;
}
