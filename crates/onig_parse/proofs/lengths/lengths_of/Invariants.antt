use Rattle.std.proofs.Common.{◌≡◌, [], drop, map}
use Rattle.syntax_defs.specs.Lengths.{lengths_from}
use Rattle.onig_parse.proofs.lengths.lengths_of.Given as goal

-- the lengths so far go on to the lengths of all
abbrev pub invariant-loop-items : goal.invariant-loop-items
invariant-loop-items l = lengths_from l.lengths.items (map (λ items. items.items) (drop l.items-index l.lists))
    ≡ lengths_from [] (map (λ items. items.items) l.lists)
