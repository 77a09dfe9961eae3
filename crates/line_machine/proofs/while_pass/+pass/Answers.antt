use Rattle.std.proofs.Common.{ap, sym, ◌∷◌, ◌∙◌}
use Rattle.std.specs.Option.{option_copied}
use Rattle.std.proofs.lemmas.Result.{IfOk-weaker}
use Rattle.line_defs.specs.declared.limits.TheConstants.{MOST_LEVELS}
use Rattle.line_defs.specs.WhilePass.{pass_over}
use Rattle.scope_defs.specs.Frames.{frames}
use Rattle.line_turns.specs.Over.{run_of}
use Rattle.line_machine.specs.Passes.{pass_by}
use Rattle.line_machine.proofs.PassLaws.{pass-root, pass-below, pass-on}
use Rattle.line_machine.proofs.while_pass.+pass.Goals as goal

pub returns-in-None-clause-passed : goal.returns-in-None-clause-passed
returns-in-None-clause-passed t c =
    IfOk-weaker c.ask_top.result _ _
    (λ p e. λ above. pass-root (run_of c.args.over.now MOST_LEVELS) c.args.stack.now above c.args.state.now
    (sym c.below.ensures ∙ ap option_copied c.in-None.is) ∙ e above) c.ask_top.ensures.asked

pub returns-in-Next-clause-passed : goal.returns-in-Next-clause-passed
returns-in-Next-clause-passed t c =
    IfOk-weaker c.ask_top-in-Next.result _ _
    (λ p e. λ above.
    pass-below (run_of c.args.over.now MOST_LEVELS) c.args.stack.now c.in-Some.below.now above c.args.state.now
    (sym c.below.ensures ∙ ap option_copied c.in-Some.is)
    ∙ c.in_ok-pass-in-Some.ensures.passed (c.args.stack.now.top ∷ above)
    ∙ ap (λ q. pass_by q c.pass.new.state
    (pass_over (run_of c.args.over.now MOST_LEVELS) (c.args.stack.now.top ∷ above) (frames c.in-Some.below.now)))
    c.in-Next.is
    ∙ pass-on (run_of c.args.over.now MOST_LEVELS) c.args.stack.now c.in-Some.below.now above c.pass.new.state
    (sym c.below.ensures ∙ ap option_copied c.in-Some.is)
    ∙ e above) c.ask_top-in-Next.ensures.asked
