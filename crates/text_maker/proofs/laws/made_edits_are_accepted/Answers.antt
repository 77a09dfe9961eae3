use Rattle.text_maker.proofs.MadeEdits.{made_edit-accepted, text_after-small}
use Rattle.text_maker.proofs.laws.made_edits_are_accepted.Goals as goal

pub returns-clause-accepted : goal.returns-clause-accepted
returns-clause-accepted c = made_edit-accepted

pub returns-clause-small : goal.returns-clause-small
returns-clause-small c = text_after-small
