use Rattle.onig_scan.proofs.WordBits.{row_of_rows}
use Rattle.onig_scan.proofs.scanner.Scanner.find_at.Goals as goal

pub find_in_rows-requires-clause-row : goal.find_in_rows-requires-clause-row
find_in_rows-requires-clause-row c =
    rw (c.deref-2.ensures.value, c.deref-3.ensures.value, ← c.rows_at-row.ensures.here)
    (row_of_rows _ _ _ _ _ (c.rows_at-row.ensures.small).0 c.self.invariant.size c.self.invariant.rows)

pub find_in_rows-requires-clause-before : goal.find_in_rows-requires-clause-before
find_in_rows-requires-clause-before c =
    rw (c.deref-2.ensures.value, c.deref-3.ensures.value, ← c.rows_at-row.ensures.past)
    (row_of_rows _ _ _ _ _ (c.rows_at-row.ensures.small).1 c.self.invariant.size c.self.invariant.rows)
