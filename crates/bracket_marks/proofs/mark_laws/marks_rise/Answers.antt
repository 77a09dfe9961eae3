use Rattle.bracket_marks.proofs.MarkedColumns.{marks_are_in_the_line}
use Rattle.bracket_marks.proofs.MarksInOrder.{marks_rise}
use Rattle.bracket_marks.proofs.mark_laws.marks_rise.Goals as goal

pub returns : goal.returns
returns c = record { within = marks_are_in_the_line; in_order = marks_rise }
