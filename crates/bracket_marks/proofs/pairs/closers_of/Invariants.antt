use Rattle.std.proofs.Common.{◌≡◌, ◌++◌, drop}
use Rattle.pairing_defs.specs.BracketTexts.{new_behind, once, closers_of}
use Rattle.bracket_marks.proofs.pairs.closers_of.Given as goal

-- the texts so far, and those that are new behind them
abbrev pub invariant-loop-pair : goal.invariant-loop-pair
invariant-loop-pair l = l.texts ++ new_behind l.texts (closers_of (drop l.pair-index l.kept)) ≡ once (closers_of l.kept)
