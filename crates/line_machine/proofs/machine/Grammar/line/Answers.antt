use Rattle.std.proofs.Common.{ap, ◌∙◌}
use Rattle.std.proofs.lemmas.Result.{IfOk-weaker}
use Rattle.line_defs.specs.Line.{result_of, line_run, with_line_feed, at_front}
use Rattle.line_turns.specs.Over.{machine_of}
use Rattle.line_machine.proofs.machine.Grammar.line.Goals as goal

pub returns-clause-gives : goal.returns-clause-gives
returns-clause-gives c =
    IfOk-weaker c.ran_line.result _ _
    (λ r e. λ line text. e line text
    ∙ ap (λ t. result_of line (line_run (machine_of t c.args.limits) (with_line_feed line)
    (at_front c.args.start.now))) c.deref.ensures)
    c.ran_line.ensures.gives
