use Rattle.std.proofs.Common.{◌≡◌, ◌+◌, ◌≤◌, ◌++◌, length, map, drop}
use Rattle.pairing_defs.specs.Marks.{on_line}
use Rattle.pairing_defs.specs.Pairing.{placed_from, open_after}
use Rattle.bracket_lex.specs.Pairing.{open_in}
use Rattle.bracket_lex.proofs.open_marks.OpenMarks.take_line.Given as goal

abbrev pub invariant-loop-m : goal.invariant-loop-m
invariant-loop-m l = record {
  limit : l.self.limit ≡ l.initial.self.limit;
  rows : l.self.rows ++ placed_from l.self.limit (open_in l.self) (map (on_line l.n) (drop l.m-index l.marks))
      ≡ l.initial.self.rows ++ placed_from l.initial.self.limit (open_in l.initial.self) (map (on_line l.n) l.marks);
  entries : open_after l.self.limit (open_in l.self) (map (on_line l.n) (drop l.m-index l.marks))
      ≡ open_after l.initial.self.limit (open_in l.initial.self) (map (on_line l.n) l.marks);
  bound : length l.self.rows ≤ length l.initial.self.rows + l.m-index;
}
