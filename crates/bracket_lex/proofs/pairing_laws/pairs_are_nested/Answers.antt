use Rattle.bracket_lex.proofs.NestedPairs.{pairs_never_cross, openers_are_below_the_limit, partners_are_below_the_limit}
use Rattle.bracket_lex.proofs.pairing_laws.pairs_are_nested.Goals as goal

pub returns : goal.returns
returns c = record {
  inside = pairs_never_cross;
  openers = openers_are_below_the_limit;
  partners = partners_are_below_the_limit;
}
