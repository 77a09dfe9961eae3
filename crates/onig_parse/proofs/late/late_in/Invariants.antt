use Rattle.std.proofs.Common.{◌≡◌, drop}
use Rattle.syntax_defs.specs.Lengths.{late_in}
use Rattle.onig_parse.proofs.late.late_in.Given as goal

-- the place so far goes on to the first of all
abbrev pub invariant-loop-item : goal.invariant-loop-item
invariant-loop-item l = late_in l.text l.parsed l.lengths l.found (drop l.item-index l.items)
    ≡ late_in l.text l.parsed l.lengths l.fn.before l.items
