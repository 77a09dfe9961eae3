use Rattle.std.proofs.Common.{◌≡◌, drop}
use Rattle.pairing_defs.specs.BracketTexts.{first_long}
use Rattle.bracket_marks.proofs.pairs.first_long.Given as goal

-- no pair so far is too long
abbrev pub invariant-loop-pair : goal.invariant-loop-pair
invariant-loop-pair l = record {
  first : first_long l.index (drop l.pair-index l.kept) ≡ first_long 0 l.kept;
  count : l.index ≡ l.pair-index;
}
