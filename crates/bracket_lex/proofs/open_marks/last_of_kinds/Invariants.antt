use Rattle.std.proofs.Common.{◌≡◌, reverse, take}
use Rattle.pairing_defs.specs.Pairing.{from_last}
use Rattle.bracket_lex.proofs.open_marks.last_of_kinds.Given as goal

abbrev pub invariant-loop-k : goal.invariant-loop-k
invariant-loop-k l = from_last l.kinds (reverse (take l.k l.entries)) ≡ from_last l.kinds (reverse l.entries)
