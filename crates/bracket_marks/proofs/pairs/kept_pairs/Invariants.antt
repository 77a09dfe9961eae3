use Rattle.std.proofs.Common.{◌≡◌, ◌++◌, drop}
use Rattle.pairing_defs.specs.BracketTexts.{kept_behind, kept_pairs}
use Rattle.bracket_marks.proofs.pairs.kept_pairs.Given as goal

-- those that are kept, and those that are kept behind them
abbrev pub invariant-loop-pair : goal.invariant-loop-pair
invariant-loop-pair l = l.kept ++ kept_behind l.kept (drop l.pair-index l.pairs) ≡ kept_pairs l.pairs
