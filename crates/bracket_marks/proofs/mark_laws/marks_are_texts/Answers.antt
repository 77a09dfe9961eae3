use Rattle.bracket_marks.proofs.MarkedColumns.{marks_are_the_longest_texts, long_lines_have_no_marks}
use Rattle.bracket_marks.proofs.MarksInOrder.{no_text_is_missed}
use Rattle.bracket_marks.proofs.mark_laws.marks_are_texts.Goals as goal

pub returns : goal.returns
returns c = record {
  longest = marks_are_the_longest_texts;
  each = no_text_is_missed;
  too_long = long_lines_have_no_marks;
}
