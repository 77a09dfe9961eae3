use Rattle.std.proofs.Common.{◌≡◌, ◌+◌, ◌++◌, length, map, true}
use Rattle.std.specs.List.{list_all}
use Rattle.pairing_defs.specs.Marks.{marks_of_lines}
use Rattle.bracket_marks.specs.MarkedLine.{marks_in}
use Rattle.agreement_check.specs.Checks.{is_narrow}
use Rattle.agreement_check.proofs.plain.plain_of.Given as goal

-- what was taken, and the lines that are left
abbrev pub invariant-loop-line : goal.invariant-loop-line
invariant-loop-line l = record {
  marks : l.marks.items ++ marks_of_lines l.n (map (λ line. line.marks) l.line-iterator) ≡ marks_in l.lines;
  lengths : l.lengths.items ++ map (λ line. line.length) l.line-iterator ≡ map (λ line. line.length) l.lines;
  lines : l.n + length l.line-iterator ≡ length l.lines;
  count : length l.lengths.items ≡ l.n;
  narrow : list_all is_narrow l.lengths.items ≡ true;
}
