use Rattle.std.proofs.Common.{◌≡◌, ℕ, ◌<◌, ◌++◌, map, take, drop, reverse}
use Rattle.pairing_defs.specs.Pairing.{removal_of, rows_from}
use Rattle.bracket_lex.specs.Pairing.{placed_of, first_for}
use Rattle.bracket_lex.proofs.partners.finish.Given as goal

abbrev pub invariant-loop-n : goal.invariant-loop-n
invariant-loop-n l = record {
  rows : l.rows ≡ take l.n l.initial.rows ++ rows_from l.end l.n (map placed_of (drop l.n l.initial.rows));
  closers : (m : ℕ) → m < l.n → removal_of m l.n (map placed_of (drop l.n l.initial.rows))
      ≡ first_for m (reverse l.closers.items);
}
