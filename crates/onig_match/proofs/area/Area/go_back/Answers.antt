use Rattle.onig_match.proofs.EarlyWays.{sound_passed, returns_passed}
use Rattle.onig_match.proofs.area.Area.go_back.Goals as goal

pub after_miss-step-requires-clause-sound : goal.after_miss-step-requires-clause-sound
after_miss-step-requires-clause-sound c =
    sound_passed c.args.on.now c.args.self.now c.args.entry c.pass_early-passed.result c.pass_early-passed.ensures
    c.requires.sound

pub returns : goal.returns
returns c =
    returns_passed c.args.on.now c.args.self.now c.args.entry c.pass_early-passed.result c.pass_early-passed.ensures
    c.after_miss-step.new.self c.after_miss-step.result c.after_miss-step.ensures
