use Rattle.bracket_lex.proofs.TakenOpeners.{closers_take_the_last_opener}
use Rattle.bracket_lex.proofs.pairing_laws.closers_take_the_last_opener.Goals as goal

pub returns : goal.returns
returns c = closers_take_the_last_opener
