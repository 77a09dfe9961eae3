use Rattle.bracket_lex.proofs.Levels.{openers_count_the_open, lone_closers_count_the_open}
use Rattle.bracket_lex.proofs.pairing_laws.levels_count_open_rows.Goals as goal

pub returns : goal.returns
returns c = record { openers = openers_count_the_open; closers = lone_closers_count_the_open }
