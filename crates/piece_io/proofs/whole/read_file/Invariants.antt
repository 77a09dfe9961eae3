use Rattle.std.proofs.Common.{◌-◌, ◌+◌, ◌≡◌, ℕ, ◌≤◌, List, length}
use Rattle.piece_io.proofs.Pieces.{IsFront}
use Rattle.piece_io.proofs.whole.read_file.Given as goal

abbrev pub invariant-loop-taken : goal.invariant-loop-taken
invariant-loop-taken g l = record {
  front : IsFront (g.F.Files.contents l.initial.files l.name) l.bytes;
  taken : l.taken ≡ length l.bytes;
  near : l.taken ≤ l.most + 65536;
  room : length l.piece ≡ 65536;
  contents : (q : List ℕ) → g.F.Files.contents l.files q ≡ g.F.Files.contents l.initial.files q;
  counts : (q : List ℕ) → g.F.Files.faults l.files q ≡ g.F.Files.faults l.initial.files q;
}

abbrev pub decreases-loop-taken : goal.decreases-loop-taken
decreases-loop-taken g l = l.most + 1 - l.taken
