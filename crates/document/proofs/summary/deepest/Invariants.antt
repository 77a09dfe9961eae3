use Rattle.std.proofs.Common.{◌≡◌, drop, max}
use Rattle.generator_defs.specs.Summary.{deepest}
use Rattle.document.proofs.summary.deepest.Given as goal

-- with the rows that are left it is the deepest of all
abbrev pub invariant-loop-row : goal.invariant-loop-row
invariant-loop-row l = max l.deepest (deepest (drop l.row-index l.rows)) ≡ deepest l.rows
