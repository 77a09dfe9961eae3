use Rattle.bracket_lex.proofs.Insides.{insides_end_at_the_first_closer, open_insides_end_with_the_text}
use Rattle.bracket_lex.proofs.Insides.{closers_have_no_inside}
use Rattle.bracket_lex.proofs.pairing_laws.insides_end_where_closed_off.Goals as goal

pub returns : goal.returns
returns c = record {
  closed_off = insides_end_at_the_first_closer;
  left_open = open_insides_end_with_the_text;
  closers = closers_have_no_inside;
}
