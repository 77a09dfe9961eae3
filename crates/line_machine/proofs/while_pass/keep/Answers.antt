use Rattle.std.proofs.Common.{ap, map, ◌∙◌}
use Rattle.std.specs.Prelude.{Some}
use Rattle.scope_defs.specs.Frames.{Frame}
use Rattle.rule_table.specs.Views.{entry_of}
use Rattle.line_defs.specs.declared.limits.TheConstants.{MOST_LEVELS}
use Rattle.line_defs.specs.Runs.{State, advanced}
use Rattle.line_defs.specs.Turns.{told_match}
use Rattle.line_turns.specs.Over.{run_of}
use Rattle.line_turns.specs.Then.{matched_of}
use Rattle.line_turns.proofs.Takens.{inside-all}
use Rattle.line_machine.proofs.while_pass.keep.Goals as goal

pub tell_match-requires-clause-inside : goal.tell_match-requires-clause-inside
tell_match-requires-clause-inside c =
    inside-all _ _ _ _ _ (c.as_slice.ensures.value ∙ c.in_ok-takens.ensures) c.requires.part.parts

pub returns-clause-told : goal.returns-clause-told
returns-clause-told c =
    let told = c.in_ok-tell_match.ensures.told c.args.work.now.hit c.args.rule.now.finish_captures
    (c.as_slice.ensures.value ∙ c.in_ok-takens.ensures) in
    c.advance.ensures
    ∙ ap (λ s. let state : State = s in advanced c.args.m.to (record state { anchor = Some c.args.m.to }))
    (c.state.view_is ∙ told)
    ∙ ap (λ f. let frame : Frame = f in advanced c.args.m.to (record c.args.state.now {
      anchor = Some c.args.m.to;
      out = told_match (run_of c.args.over.now MOST_LEVELS) c.args.state.now frame.content frame.content
          (matched_of c.args.m c.args.work.now.hit) (map entry_of c.args.rule.now.finish_captures);
    })) c.frame.view_is
