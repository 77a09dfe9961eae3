use Rattle.std.proofs.Common.{◌≡◌, ◌+◌, ◌≤◌, ◌++◌, length, map}
use Rattle.pairing_defs.specs.Marks.{marks_of_lines}
use Rattle.pairing_defs.specs.Pairing.{placed_from, nothing_open}
use Rattle.bracket_marks.specs.MarkedLine.{marks_in}
use Rattle.bracket_lex.specs.Pairing.{open_in}
use Rattle.bracket_lex.proofs.paired.Paired.of.Given as goal

-- what was paired, and the lines that are left
abbrev pub invariant-loop-line : goal.invariant-loop-line
invariant-loop-line l = record {
  limit : l.open_marks.limit ≡ l.limit;
  rows : l.open_marks.rows ++ placed_from l.limit (open_in l.open_marks)
      (marks_of_lines l.n (map (λ line. line.marks) l.line-iterator))
      ≡ placed_from l.limit nothing_open (marks_in l.lines);
  bound : length l.open_marks.rows + length (marks_of_lines l.n (map (λ line. line.marks) l.line-iterator)) ≤ length
      (marks_in l.lines);
  lines : l.n + length l.line-iterator ≡ length l.lines;
}
