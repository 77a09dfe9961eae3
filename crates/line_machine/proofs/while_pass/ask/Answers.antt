use Rattle.std.proofs.Common.{ap, sym, ◌∙◌}
use Rattle.std.specs.Prelude.{unwrap_or}
use Rattle.rule_defs.specs.Rules.{no_rule}
use Rattle.rule_table.specs.Views.{rule_of}
use Rattle.line_search.specs.Finds.{found_of}
use Rattle.line_defs.specs.declared.limits.TheConstants.{MOST_LEVELS}
use Rattle.line_defs.specs.Frames.{popped}
use Rattle.line_defs.specs.Tokens.{spent}
use Rattle.line_defs.specs.Runs.{State, GoesOn, rest}
use Rattle.line_defs.specs.WhilePass.{asked, kept_by}
use Rattle.line_turns.specs.Over.{run_of}
use Rattle.line_turns.specs.Then.{matched_of}
use Rattle.line_machine.proofs.PassLaws.{found-while}
use Rattle.line_machine.proofs.while_pass.ask.Goals as goal

pub returns-in_ok-state-inside-in-Nothing-clause-asked : goal.returns-in_ok-state-inside-in-Nothing-clause-asked
returns-in_ok-state-inside-in-Nothing-clause-asked c = λ next.
    ap (λ f. asked f (run_of c.args.over.now MOST_LEVELS) c.args.stack.now.top c.args.stack.now.below c.args.state.now
    next)
    (sym (ap (λ f. found_of f c.while_found.new.work.hit) (sym c.in-Nothing.is)
    ∙ found-while c.args.over.now c.args.searcher.now c.args.state.now _ _ _ c.top.result.now c.args.stack.now.top _
    c.in_ok-while_found.ensures.found c.requires.ready.same c.state.view_is c.flags-flags.ensures
    c.requires.ready.budget c.top.ensures))
    ∙ ap (λ s. let state : State = s in GoesOn (record state { stack = popped c.args.stack.now })) (sym c.state.view_is)
    ∙ ap (λ k. GoesOn (let state : State = record {
      place = c.state.inside.place;
      anchor = c.state.inside.anchor;
      first = c.state.inside.first;
      stack = k;
      out = c.state.inside.out;
    } in state)) (sym c.in_ok-state-inside-in-Nothing.ensures)

pub returns-in_ok-rest-in-Spent-clause-asked : goal.returns-in_ok-rest-in-Spent-clause-asked
returns-in_ok-rest-in-Spent-clause-asked c = λ next.
    ap (λ f. asked f (run_of c.args.over.now MOST_LEVELS) c.args.stack.now.top c.args.stack.now.below c.args.state.now
    next)
    (sym (ap (λ f. found_of f c.while_found.new.work.hit) (sym c.in-Spent.is)
    ∙ found-while c.args.over.now c.args.searcher.now c.args.state.now _ _ _ c.top.result.now c.args.stack.now.top _
    c.in_ok-while_found.ensures.found c.requires.ready.same c.state.view_is c.flags-flags.ensures
    c.requires.ready.budget c.top.ensures))
    ∙ ap (λ s. let state : State = s in rest c.args.over.now.text.now (record state { out = spent state.out }))
    (sym c.state.view_is)
    ∙ ap (λ out. rest c.args.over.now.text.now (let state : State = record {
      place = c.state.inside.place;
      anchor = c.state.inside.anchor;
      first = c.state.inside.first;
      stack = c.state.inside.stack;
      out = out;
    } in state)) (sym c.set_spent.ensures)
    ∙ sym c.in_ok-rest-in-Spent.ensures

pub returns-in_ok-keep-in-At-clause-asked : goal.returns-in_ok-keep-in-At-clause-asked
returns-in_ok-keep-in-At-clause-asked c = λ next.
    ap (λ f. asked f (run_of c.args.over.now MOST_LEVELS) c.args.stack.now.top c.args.stack.now.below c.args.state.now
    next)
    (sym (ap (λ f. found_of f c.while_found.new.work.hit) (sym c.in-At.is)
    ∙ found-while c.args.over.now c.args.searcher.now c.args.state.now _ _ _ c.top.result.now c.args.stack.now.top _
    c.in_ok-while_found.ensures.found c.requires.ready.same c.state.view_is c.flags-flags.ensures
    c.requires.ready.budget c.top.ensures))
    ∙ ap next (sym (c.in_ok-keep-in-At.ensures.told
    ∙ ap (λ f. kept_by (run_of c.args.over.now MOST_LEVELS) f (rule_of c.args.rule.now)
    (matched_of c.in-At.m c.while_found.new.work.hit) c.args.state.now) c.top-in-At.ensures
    ∙ ap (λ r. kept_by (run_of c.args.over.now MOST_LEVELS) c.args.stack.now.top r
    (matched_of c.in-At.m c.while_found.new.work.hit) c.args.state.now)
    (sym (ap (λ o. unwrap_or o no_rule) c.requires.rule))))
