use Rattle.std.proofs.Common.{◌≡◌, length, map, take}
use Rattle.text_defs.specs.Text.{lines_of}
use Rattle.bracket_marks.specs.MarkedLine.{marked_line}
use Rattle.bracket_lex.proofs.mark_lines.MarkLines.of_text.Given as goal

abbrev pub invariant-loop-n : goal.invariant-loop-n
invariant-loop-n l = record {
  lines : l.lines ≡ map (marked_line l.brackets l.long) (take l.n (lines_of l.text));
  count : length l.lines ≡ l.n;
}
