use Rattle.bracket_lex.proofs.NextMarks.{one_more_closer_has_a_row, one_more_opener_has_a_row_below_the_limit}
use Rattle.bracket_lex.proofs.pairing_laws.openers_at_the_limit_have_no_rows.Goals as goal

pub returns : goal.returns
returns c = record { closers = one_more_closer_has_a_row; openers = one_more_opener_has_a_row_below_the_limit }
