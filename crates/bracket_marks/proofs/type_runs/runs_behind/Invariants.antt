use Rattle.std.proofs.Common.{◌≡◌, ℕ, ◌≤◌, drop}
use Rattle.pairing_defs.specs.Marks.{counts_by}
use Rattle.bracket_marks.proofs.type_runs.runs_behind.Given as goal

-- the runs so far end before the column
abbrev pub invariant-loop-n : goal.invariant-loop-n
invariant-loop-n l = (k : ℕ) → l.column ≤ k → counts_by (drop l.n l.types) k ≡ counts_by l.types k
