use Rattle.onig_parse.proofs.StepCounts.{each_step_takes_a_character, steps_suffice}
use Rattle.onig_parse.proofs.laws.steps_suffice.Goals as goal

pub returns-clause-takes : goal.returns-clause-takes
returns-clause-takes c = each_step_takes_a_character

pub returns-clause-same : goal.returns-clause-same
returns-clause-same c = steps_suffice
