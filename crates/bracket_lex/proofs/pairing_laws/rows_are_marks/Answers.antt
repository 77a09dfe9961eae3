use Rattle.bracket_lex.proofs.KeptMarks.{rows_are_marks_in_order, closers_have_rows, marks_within_the_limit_have_rows}
use Rattle.bracket_lex.proofs.pairing_laws.rows_are_marks.Goals as goal

pub returns : goal.returns
returns c = record {
  in_order = rows_are_marks_in_order;
  closers = closers_have_rows;
  within_limit = marks_within_the_limit_have_rows;
}
