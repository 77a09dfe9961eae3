use Rattle.bracket_lex.proofs.PairedRows.{partners_are_mutual, openers_come_first, partners_are_alike}
use Rattle.bracket_lex.proofs.PairedRows.{colours_go_by_level, the_unpaired_have_the_colour_behind}
use Rattle.bracket_lex.proofs.pairing_laws.partners_belong_together.Goals as goal

pub returns : goal.returns
returns c = record {
  mutually = partners_are_mutual;
  in_order = openers_come_first;
  alike = partners_are_alike;
  colour = colours_go_by_level;
  unpaired = the_unpaired_have_the_colour_behind;
}
