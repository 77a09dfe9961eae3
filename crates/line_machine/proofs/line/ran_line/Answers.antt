use Rattle.std.proofs.Common.{refl, ap, ◌∙◌}
use Rattle.std.proofs.lemmas.Result.{IfOk-weaker}
use Rattle.line_defs.specs.Line.{result_of, line_run, with_line_feed}
use Rattle.line_turns.specs.Over.{machine_over}
use Rattle.line_machine.proofs.LineLaws.{front-may, line-length}
use Rattle.line_machine.proofs.line.ran_line.Goals as goal

pub run_line-requires-clause-may : goal.run_line-requires-clause-may
run_line-requires-clause-may c =
    front-may c.args.over.now c.args.start.now c.in_ok-state.state c.in_ok-state.ensures c.requires.fit

pub returns-clause-gives : goal.returns-clause-gives
returns-clause-gives c =
    IfOk-weaker c.result_after.result _ _
    (λ r e. λ line text.
    let ran = c.in_ok-run_line.ensures.ran
    ∙ ap (λ t. line_run (machine_over c.args.over.now) t c.in_ok-state.state) text
    ∙ ap (λ s. line_run (machine_over c.args.over.now) (with_line_feed line) s) c.in_ok-state.ensures in
    e line (line-length c.args.over.now.text.now line _ text refl)
    ∙ ap (λ s. result_of line s) ran)
    c.result_after.ensures
