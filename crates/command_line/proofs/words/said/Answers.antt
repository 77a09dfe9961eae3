use Rattle.std.proofs.Common.{ap, Some, ◌∙◌}
use Rattle.clap.specs.Words.{app_of}
use Rattle.command_line.proofs.ClapLaw.{taken, not_taken}
use Rattle.command_line.proofs.words.said.Goals as goal

pub returns-in-Ok : goal.returns-in-Ok
returns-in-Ok c =
    ap Some c.options_of.ensures
    ∙ taken (app_of c.in_ok-command.command) c.args.words.now c.in-Ok.matches c.in_ok-command.ensures c.in-Ok.ensures.kinds
    c.in-Ok.ensures.matches

pub returns : goal.returns
returns c =
    not_taken (app_of c.in_ok-command.command) c.args.words.now c.kind.result c.in-Err.error c.in_ok-command.ensures
    c.in-Err.ensures.kinds c.kind.ensures c.in_default.not-OutOfMemory
