use Rattle.std.proofs.Common.{◌≡◌, ℕ, ◌-◌, ◌≤◌, ◌++◌, length}
use Rattle.pairing_defs.specs.Marks.{counts_by, bracket_at, marks_from}
use Rattle.bracket_marks.proofs.brackets.Brackets.marks_in.Given as goal

abbrev pub invariant-loop-column : goal.invariant-loop-column
invariant-loop-column l = record {
  marks : l.marks.items
      ++ marks_from (bracket_at l.self (counts_by l.types) l.line) 0 l.column (length l.line - l.column)
      ≡ marks_from (bracket_at l.self (counts_by l.types) l.line) 0 0 (length l.line);
  within : l.column ≤ length l.line;
  same : (k : ℕ) → l.column ≤ k → counts_by l.rest k ≡ counts_by l.types k;
}

abbrev pub decreases-loop-column : goal.decreases-loop-column
decreases-loop-column l = length l.line - l.column
