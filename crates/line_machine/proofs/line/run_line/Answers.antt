use Rattle.std.proofs.Common.{◌≡◌, [], ap, sym, ◌∙◌, arith}
use Rattle.std.proofs.lemmas.Result.{on_ok_weaker}
use Rattle.scope_defs.specs.Frames.{frames}
use Rattle.line_defs.specs.declared.limits.TheConstants.{MOST_LEVELS}
use Rattle.line_defs.specs.Runs.{State, GoesOn, Stops}
use Rattle.line_defs.specs.WhilePass.{pass_over, while_pass}
use Rattle.line_laws.proofs.Lines.{MayRun, MayRun-runs}
use Rattle.line_turns.specs.Over.{run_of, machine_over}
use Rattle.line_machine.specs.Passes.{pass_by}
use Rattle.line_machine.proofs.LineLaws.{pass-whole, line-stops, line-goes, may-go}
use Rattle.line_machine.proofs.line.run_line.Goals as goal

pub returns-in-Stops-clause-ran : goal.returns-in-Stops-clause-ran
returns-in-Stops-clause-ran c =
    line-stops (machine_over c.args.over.now) c.args.over.now.text.now c.args.state.now c.pass.new.state
    (pass-whole (run_of c.args.over.now MOST_LEVELS) c.in_ok-stack.stack c.args.state.now (Stops c.pass.new.state)
    (ap (λ s. let state : State = s in state.stack) (sym c.state.view_is) ∙ sym c.in_ok-stack.ensures)
    (c.in_ok-pass.ensures.passed []
    ∙ ap (λ q. pass_by q c.pass.new.state
    (pass_over (run_of c.args.over.now MOST_LEVELS) [] (frames c.in_ok-stack.stack))) c.in-Stops.is))

pub returns-in-Next-clause-ran : goal.returns-in-Next-clause-ran
returns-in-Next-clause-ran c =
    let whole : while_pass (run_of c.args.over.now MOST_LEVELS) c.args.state.now ≡ GoesOn c.pass.new.state =
    pass-whole (run_of c.args.over.now MOST_LEVELS) c.in_ok-stack.stack c.args.state.now (GoesOn c.pass.new.state)
    (ap (λ s. let state : State = s in state.stack) (sym c.state.view_is) ∙ sym c.in_ok-stack.ensures)
    (c.in_ok-pass.ensures.passed []
    ∙ ap (λ q. pass_by q c.pass.new.state
    (pass_over (run_of c.args.over.now MOST_LEVELS) [] (frames c.in_ok-stack.stack))) c.in-Next.is) in
    on_ok_weaker c.run.result
    (λ e. line-goes (machine_over c.args.over.now) c.args.over.now.text.now c.args.state.now c.pass.new.state
    c.run.new.state whole e) c.run.ensures.runs

pub run-requires-in-Ends-clause-running : goal.run-requires-in-Ends-clause-running
run-requires-in-Ends-clause-running c =
    let whole : while_pass (run_of c.args.over.now MOST_LEVELS) c.args.state.now ≡ GoesOn c.pass.new.state =
    pass-whole (run_of c.args.over.now MOST_LEVELS) c.in_ok-stack.stack c.args.state.now (GoesOn c.pass.new.state)
    (ap (λ s. let state : State = s in state.stack) (sym c.state.view_is) ∙ sym c.in_ok-stack.ensures)
    (c.in_ok-pass.ensures.passed []
    ∙ ap (λ q. pass_by q c.pass.new.state
    (pass_over (run_of c.args.over.now MOST_LEVELS) [] (frames c.in_ok-stack.stack))) c.in-Ends.is) in
    MayRun-runs (run_of c.args.over.now MOST_LEVELS) c.pass.new.state
    (may-go (machine_over c.args.over.now) c.args.over.now.text.now c.args.state.now c.pass.new.state c.requires.may
    whole)

pub run-requires-in-Ends-clause-few : goal.run-requires-in-Ends-clause-few
run-requires-in-Ends-clause-few c =
    let whole : while_pass (run_of c.args.over.now MOST_LEVELS) c.args.state.now ≡ GoesOn c.pass.new.state =
    pass-whole (run_of c.args.over.now MOST_LEVELS) c.in_ok-stack.stack c.args.state.now (GoesOn c.pass.new.state)
    (ap (λ s. let state : State = s in state.stack) (sym c.state.view_is) ∙ sym c.in_ok-stack.ensures)
    (c.in_ok-pass.ensures.passed []
    ∙ ap (λ q. pass_by q c.pass.new.state
    (pass_over (run_of c.args.over.now MOST_LEVELS) [] (frames c.in_ok-stack.stack))) c.in-Ends.is) in
    let may : MayRun (run_of c.args.over.now MOST_LEVELS) c.pass.new.state =
    may-go (machine_over c.args.over.now) c.args.over.now.text.now c.args.state.now c.pass.new.state c.requires.may
    whole in
    omega (arith, may.built.few)

pub returns-clause-ran : goal.returns-clause-ran
returns-clause-ran c =
    let whole : while_pass (run_of c.args.over.now MOST_LEVELS) c.args.state.now ≡ GoesOn c.pass.new.state =
    pass-whole (run_of c.args.over.now MOST_LEVELS) c.in_ok-stack.stack c.args.state.now (GoesOn c.pass.new.state)
    (ap (λ s. let state : State = s in state.stack) (sym c.state.view_is) ∙ sym c.in_ok-stack.ensures)
    (c.in_ok-pass.ensures.passed []
    ∙ ap (λ q. pass_by q c.pass.new.state
    (pass_over (run_of c.args.over.now MOST_LEVELS) [] (frames c.in_ok-stack.stack))) c.in-Ends.is) in
    on_ok_weaker c.run-in-Ends.result
    (λ e. line-goes (machine_over c.args.over.now) c.args.over.now.text.now c.args.state.now c.pass.new.state
    c.run-in-Ends.new.state whole e) c.run-in-Ends.ensures.runs
