use Rattle.onig_parse.proofs.ClassPlaces.{each_member_takes_a_character, each_class_takes_a_character, members_suffice}
use Rattle.onig_parse.proofs.laws.members_suffice.Goals as goal

pub returns-clause-takes : goal.returns-clause-takes
returns-clause-takes c = each_member_takes_a_character

pub returns-clause-nested : goal.returns-clause-nested
returns-clause-nested c = each_class_takes_a_character

pub returns-clause-same : goal.returns-clause-same
returns-clause-same c = members_suffice
