use Rattle.std.proofs.Common.{◌≡◌, ap, sym, refl, ◌∙◌}
use Rattle.std.proofs.lemmas.Result.{IfOk-weaker}
use Rattle.scope_defs.specs.Frames.{Frame}
use Rattle.line_defs.specs.Runs.{State}
use Rattle.line_turns.specs.Over.{run_of}
use Rattle.line_turns.specs.Then.{matched_of}
use Rattle.line_turns.proofs.Begins.{begun-stuck, begun-on}
use Rattle.line_turns.proofs.turns.after_begin.Goals as goal

pub returns-then-is_stuck : goal.returns-then-is_stuck
returns-then-is_stuck c =
    let set : State = record {
      place = c.state-2.inside.place;
      anchor = c.state-2.inside.anchor;
      first = c.state-2.inside.first;
      stack = c.state-2.inside.stack;
      out = c.state-2.inside.out;
    } in
    IfOk-weaker c.rest_of.result _ _
    (λ then e. λ levels rule hit content end.
    begun-stuck (run_of c.args.over.now levels) (matched_of c.args.m hit) c.args.id.0 rule c.args.state.now set
    c.in_ok-frame.frame c.args.content c.args.end
    (c.in_ok-frame.ensures
    ∙ ap (λ f. let frame : Frame = record f { content = c.args.content; end_text = c.args.end } in frame)
    (c.top.ensures ∙ ap (λ s. let state : State = s in state.stack.top) c.state.view_is))
    content end (c.state-2.view_is ∙ c.in_ok-set_top.ensures) _ c.pop.new.self _
    (sym c.if-is_stuck.true ∙ c.is_stuck-is_stuck.ensures hit) c.in_ok-pop.ensures e)
    c.rest_of.ensures

pub returns : goal.returns
returns c =
    let set : State = record {
      place = c.state-2.inside.place;
      anchor = c.state-2.inside.anchor;
      first = c.state-2.inside.first;
      stack = c.state-2.inside.stack;
      out = c.state-2.inside.out;
    } in
    λ levels rule hit content end.
    begun-on (run_of c.args.over.now levels) (matched_of c.args.m hit) c.args.id.0 rule c.args.state.now set
    c.in_ok-frame.frame c.args.content c.args.end
    (c.in_ok-frame.ensures
    ∙ ap (λ f. let frame : Frame = record f { content = c.args.content; end_text = c.args.end } in frame)
    (c.top.ensures ∙ ap (λ s. let state : State = s in state.stack.top) c.state.view_is))
    content end (c.state-2.view_is ∙ c.in_ok-set_top.ensures) _ _ _
    (sym c.if-is_stuck.false ∙ c.is_stuck-is_stuck.ensures hit) refl c.goes_on.ensures
