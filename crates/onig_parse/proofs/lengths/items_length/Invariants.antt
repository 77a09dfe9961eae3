use Rattle.std.proofs.Common.{◌≡◌, Some, drop}
use Rattle.syntax_defs.specs.Lengths.{sum_from}
use Rattle.onig_parse.proofs.lengths.items_length.Given as goal

-- the sum so far goes on to the sum of all
abbrev pub invariant-loop-item : goal.invariant-loop-item
invariant-loop-item l = sum_from l.lengths l.sum (drop l.item-index l.items) ≡ sum_from l.lengths (Some 0) l.items
