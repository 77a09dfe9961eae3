use Rattle.std.proofs.Common.{◌≡◌, ◌++◌, drop}
use Rattle.serde_json.specs.View.{items_view}
use Rattle.grammar_defs.specs.BracketShape.{pairs_of, pairs_faults}
use Rattle.grammar_json.proofs.brackets.read_pairs.Given as goal

-- what was read, and what is left to read
abbrev pub invariant-loop-index : goal.invariant-loop-index
invariant-loop-index l = record {
  faults : pairs_faults 0 (items_view l.items) ≡ pairs_faults l.index (items_view (drop l.index l.items));
  pairs : l.pairs ++ pairs_of (items_view (drop l.index l.items)) ≡ pairs_of (items_view l.items);
}
