use Rattle.change_laws.proofs.PlaceLaws.{room_law, old_mark_law, new_mark_law}
use Rattle.change_laws.proofs.texts_go_alike_up_to_the_next_change.Goals as goal

pub returns-clause-places : goal.returns-clause-places
returns-clause-places c = room_law

pub returns-clause-old_marks : goal.returns-clause-old_marks
returns-clause-old_marks c = old_mark_law

pub returns-clause-new_marks : goal.returns-clause-new_marks
returns-clause-new_marks c = new_mark_law
