use Rattle.std.proofs.Common.{take}
use Rattle.syntax_defs.specs.PatternMeaning.{FitsItems}
use Rattle.onig_parse.proofs.lower.lower_items.Given as goal

abbrev pub invariant-loop-item : goal.invariant-loop-item
invariant-loop-item l = FitsItems l.text l.parsed l.lengths l.nodes.items (take l.item-index l.items)
