use Rattle.std.proofs.Common.{◌≡◌, None, drop, map}
use Rattle.syntax_defs.specs.Lengths.{late_among}
use Rattle.onig_parse.proofs.late.late_among.Given as goal

-- the place so far goes on to the first of all
abbrev pub invariant-loop-items : goal.invariant-loop-items
invariant-loop-items l =
    late_among l.text l.parsed l.lengths l.found (map (λ items. items.items) (drop l.items-index l.lists))
    ≡ late_among l.text l.parsed l.lengths None (map (λ items. items.items) l.lists)
