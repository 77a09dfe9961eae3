use Rattle.std.proofs.Common.{◌≡◌, ◌<◌, ◌≤◌, length, map, ap, refl, sym, ◌∙◌, arith, subst}
use Rattle.std.proofs.lemmas.Result.{IfOk-weaker, on_ok_weaker}
use Rattle.scope_defs.specs.Frames.{Frame, depth}
use Rattle.rule_table.specs.Views.{entry_of, rule_of}
use Rattle.line_search.specs.Finds.{IfAt, IsPartFrom, found_of}
use Rattle.line_defs.specs.Tokens.{put, spent}
use Rattle.line_defs.specs.Runs.{State, GoesOn, rest}
use Rattle.line_defs.specs.Search.{OfEnd}
use Rattle.line_defs.specs.Turns.{turn, told_match, names}
use Rattle.line_laws.proofs.Turns.{run_from-ends}
use Rattle.line_turns.specs.Over.{run_of, machine_over, few_at, IsReady}
use Rattle.line_turns.specs.Telling.{Telling, all_told}
use Rattle.line_turns.specs.Then.{turned_of, matched_of}
use Rattle.line_turns.proofs.Begins.{begun-full, begun-more, content-told, depth-told, kept-as}
use Rattle.line_turns.proofs.Found.{found-search, turn-nothing, turn-spent, turn-end, turn-rule, end-in-table}
use Rattle.line_turns.proofs.Runs.{GoesFurther, goes-further, runs-on, runs-end}
use Rattle.line_turns.proofs.Takens.{open-running, open-content, open-begun, inside-all, told-match}
use Rattle.line_turns.proofs.Calls.{kept-none, kept-both, ready-kept}
use Rattle.line_turns.proofs.turns.+run.Goals as goal

pub begin_found-tell_match-requires : goal.begin_found-tell_match-requires
begin_found-tell_match-requires t c = (
  omega (arith, c.decreases),
  (
    c.requires.ready,
    (
      open-begun c.args.over.now c.args.levels c.args.state.now _ _ c.requires.running c.requires.few
          (c.in_ok-push_begin.ensures c.args.levels c.args.work.now.hit),
      inside-all _ _ _ _ _ (c.as_slice.ensures.value ∙ c.in_ok-takens.ensures) c.requires.part.parts,
    ),
  ),
)

pub begin_found-returns-then-is_full-clause-turned : goal.begin_found-returns-then-is_full-clause-turned
begin_found-returns-then-is_full-clause-turned t c =
    let frame_of : State → Frame = λ s. s.stack.top in
    let before : c.in_ok-before.before ≡ c.args.state.now.stack.top.content =
    c.in_ok-before.ensures ∙ ap (λ f. let frame : Frame = f in frame.content) c.behind-state.view_is
    ∙ ap (λ f. let frame : Frame = f in frame.content) (c.top.ensures ∙ ap frame_of c.state.view_is) in
    let told = c.in_ok-tell_match.ensures.told c.args.work.now.hit c.args.rule.now.start_captures
    (c.as_slice.ensures.value ∙ c.in_ok-takens.ensures) in
    let pushed = c.in_ok-push_begin.ensures c.args.levels c.args.work.now.hit in
    let same : depth c.state.inside.stack ≡ depth c.args.state.now.stack =
    ap (λ s. let state : State = s in depth state.stack) c.state.view_is in
    let many : 1000 ≤ depth c.args.state.now.stack =
    omega (arith, same, c.if-is_full.true, c.depth-is_full.ensures.count) in
    IfOk-weaker c.after_full.result _ _
    (λ then e. e c.args.levels c.args.id.0 (rule_of c.args.rule.now) c.args.work.now.hit
    ∙ begun-full (run_of c.args.over.now c.args.levels) (matched_of c.args.m c.args.work.now.hit) c.args.id.0
    (rule_of c.args.rule.now) c.args.state.now c.push_begin.new.state c.tell_match.new.state c.in_ok-before.before
    c.in_ok-scopes.scopes before c.in_ok-scopes.ensures pushed told many)
    c.after_full.ensures

pub begin_found-after_begin-requires-clause-few : goal.begin_found-after_begin-requires-clause-few
begin_found-after_begin-requires-clause-few t c =
    let frame_of : State → Frame = λ s. s.stack.top in
    let before : c.in_ok-before.before ≡ c.args.state.now.stack.top.content =
    c.in_ok-before.ensures ∙ ap (λ f. let frame : Frame = f in frame.content) c.behind-state.view_is
    ∙ ap (λ f. let frame : Frame = f in frame.content) (c.top.ensures ∙ ap frame_of c.state.view_is) in
    let told = c.in_ok-tell_match.ensures.told c.args.work.now.hit c.args.rule.now.start_captures
    (c.as_slice.ensures.value ∙ c.in_ok-takens.ensures) in
    let pushed = c.in_ok-push_begin.ensures c.args.levels c.args.work.now.hit in
    let more = depth-told (run_of c.args.over.now c.args.levels) (matched_of c.args.m c.args.work.now.hit) c.args.id.0
    (rule_of c.args.rule.now) c.args.state.now c.push_begin.new.state c.tell_match.new.state c.in_ok-before.before
    c.in_ok-scopes.scopes before c.in_ok-scopes.ensures pushed told in
    omega (arith, more, c.requires.few)

pub begin_found-returns-clause-turned : goal.begin_found-returns-clause-turned
begin_found-returns-clause-turned t c =
    let frame_of : State → Frame = λ s. s.stack.top in
    let before : c.in_ok-before.before ≡ c.args.state.now.stack.top.content =
    c.in_ok-before.ensures ∙ ap (λ f. let frame : Frame = f in frame.content) c.behind-state.view_is
    ∙ ap (λ f. let frame : Frame = f in frame.content) (c.top.ensures ∙ ap frame_of c.state.view_is) in
    let told = c.in_ok-tell_match.ensures.told c.args.work.now.hit c.args.rule.now.start_captures
    (c.as_slice.ensures.value ∙ c.in_ok-takens.ensures) in
    let pushed = c.in_ok-push_begin.ensures c.args.levels c.args.work.now.hit in
    let same : depth c.state.inside.stack ≡ depth c.args.state.now.stack =
    ap (λ s. let state : State = s in depth state.stack) c.state.view_is in
    let less : depth c.args.state.now.stack < 1000 =
    omega (arith, same, c.if-is_full.false, c.depth-is_full.ensures.count) in
    let content = content-told (run_of c.args.over.now c.args.levels) (matched_of c.args.m c.args.work.now.hit)
    c.args.id.0 (rule_of c.args.rule.now) c.args.state.now c.push_begin.new.state c.tell_match.new.state
    c.in_ok-before.before
    c.in_ok-scopes.scopes before c.in_ok-scopes.ensures pushed told in
    IfOk-weaker c.after_begin.result _ _
    (λ then e. e c.args.levels (rule_of c.args.rule.now) c.args.work.now.hit
    (c.in_ok-content.ensures
    ∙ ap (λ scopes. names (run_of c.args.over.now c.args.levels) (matched_of c.args.m c.args.work.now.hit) scopes
    (rule_of c.args.rule.now).content) (sym content))
    (kept-as (run_of c.args.over.now c.args.levels) (matched_of c.args.m c.args.work.now.hit) _
    (record { of = OfEnd; from = 0; to = 0; captures = c.args.work.now.hit }) (rule_of c.args.rule.now).finish
    refl (c.in_ok-end.ensures c.args.levels))
    ∙ begun-more (run_of c.args.over.now c.args.levels) (matched_of c.args.m c.args.work.now.hit) c.args.id.0
    (rule_of c.args.rule.now) c.args.state.now c.push_begin.new.state c.tell_match.new.state c.in_ok-before.before
    c.in_ok-scopes.scopes before c.in_ok-scopes.ensures pushed told less)
    c.after_begin.ensures

pub end_found-tell_match-requires : goal.end_found-tell_match-requires
end_found-tell_match-requires t c = (
  omega (arith, c.decreases),
  (
    c.requires.ready,
    (
      open-content c.args.over.now c.args.levels c.args.state.now c.set_top.new.self c.in_ok-frame.frame
          c.in_ok-copy.field-0 c.requires.running c.requires.few
          (c.in_ok-frame.ensures
          ∙ ap (λ f. let frame : Frame = record f { content = c.in_ok-copy.field-0 } in frame)
          (c.top-top.ensures ∙ ap (λ s. let state : State = s in state.stack.top) c.state.view_is))
          c.in_ok-set_top.ensures,
      inside-all _ _ _ _ _ (c.as_slice.ensures.value ∙ c.in_ok-takens.ensures) c.requires.part.parts,
    ),
  ),
)

pub match_found-tell_match-requires : goal.match_found-tell_match-requires
match_found-tell_match-requires t c = (
  omega (arith, c.decreases),
  (
    c.requires.ready,
    (
      open-running c.args.over.now c.args.levels c.args.state.now c.requires.running c.requires.few,
      inside-all _ _ _ _ _ (c.as_slice.ensures.value ∙ c.in_ok-takens.ensures) c.requires.part.parts,
    ),
  ),
)

pub run-loop-init : goal.run-loop-init
run-loop-init t c = record {
  kept = kept-none _ _;
  running = c.requires.running;
  few = c.requires.few;
  ends = run_from-ends _ _ _ _ c.requires.running;
}

pub run-loop-smaller : goal.run-loop-smaller
run-loop-smaller t c =
    let further : GoesFurther (run_of c.args.over.now c.args.levels) (few_at c.args.levels) c.loop.state
    c.turn.new.state =
    goes-further _ _ _ _ (omega arith) c.loop.invariant.running c.loop.invariant.few
    (ap (λ then. turned_of then c.turn.new.state) (sym c.in-GoesOn.is) ∙ c.in_ok-turn.ensures.turned) in
    further.fewer

pub run-loop-preserved : goal.run-loop-preserved
run-loop-preserved t c =
    let goes : GoesOn c.turn.new.state ≡ turn (run_of c.args.over.now c.args.levels) c.loop.state =
    ap (λ then. turned_of then c.turn.new.state) (sym c.in-GoesOn.is) ∙ c.in_ok-turn.ensures.turned in
    let further : GoesFurther (run_of c.args.over.now c.args.levels) (few_at c.args.levels) c.loop.state
    c.turn.new.state =
    goes-further _ _ _ _ (omega arith) c.loop.invariant.running c.loop.invariant.few goes in
    record {
      kept = kept-both _ _ _ _ _ _ c.loop.invariant.kept c.in_ok-turn.ensures.kept;
      running = further.running;
      few = further.few;
      ends = runs-on _ _ _ _ c.loop.invariant.ends goes;
    }

pub run-returns-in-Stops-clause-runs : goal.run-returns-in-Stops-clause-runs
run-returns-in-Stops-clause-runs t c =
    runs-end _ _ _ _ c.loop.invariant.ends
    (ap (λ then. turned_of then c.turn.new.state) (sym c.in-Stops.is) ∙ c.in_ok-turn.ensures.turned)

pub tell_match-returns-clause-told : goal.tell_match-returns-clause-told
tell_match-returns-clause-told t c =
    let here : State = record {
      place = c.state.inside.place;
      anchor = c.state.inside.anchor;
      first = c.state.inside.first;
      stack = c.state.inside.stack;
      out = c.state.inside.out;
    } in
    let telling : Telling = record {
      inside = (run_of c.args.over.now c.args.levels).inside;
      text = c.args.over.now.text.now;
      stack = c.state.inside.stack;
      first = c.state.inside.first;
      scopes = c.args.scopes.now;
      to = c.args.m.to;
    } in
    on_ok_weaker c.put-2.result
    (λ e. λ hit entries takens.
    ap (λ out. let state : State = record here { out = out } in state)
    (e
    ∙ ap (λ out. put out c.args.scopes.now c.args.m.to)
    (c.in_ok-tell_takens.ensures.told
    ∙ ap (λ out. all_told telling c.args.takens.now out) c.in_ok-put.ensures)
    ∙ told-match c.args.over.now c.args.levels here c.args.before.now c.args.scopes.now c.args.m hit entries
    c.args.takens.now telling takens refl)
    ∙ ap (λ s. let state : State = record s {
      out = told_match (run_of c.args.over.now c.args.levels) s c.args.before.now c.args.scopes.now
          (matched_of c.args.m hit) (map entry_of entries);
    } in state) c.state.view_is)
    c.put-2.ensures

pub turn-end_found-requires : goal.turn-end_found-requires
turn-end_found-requires t c = (
  omega (arith, c.decreases),
  (
    ready-kept _ _ _ _ _ _ c.requires.ready (record {
      searcher = c.in_ok-search.ensures.same;
      budget = c.in_ok-search.ensures.budget;
      room = c.in_ok-search.ensures.room;
    }),
    (
      c.requires.running,
      (
        c.requires.few,
        (
          subst (λ s. let state : State = s in
              IsPartFrom state.place (length c.args.over.now.text.now) c.search.new.work.hit c.in-At.m)
              c.state.view_is
              (subst (λ f. IfAt f (IsPartFrom c.state.inside.place (length c.args.over.now.text.now)
              c.search.new.work.hit)) c.in-At.is c.in_ok-search.ensures.part),
          end-in-table c.args.over.now c.args.levels c.args.state.now c.in-At.m c.search.new.work.hit
              (ap (λ f. found_of f c.search.new.work.hit) (sym c.in-At.is)
              ∙ found-search c.args.over.now c.args.searcher.now c.args.state.now _ _ _ c.top.result.now _
              c.in_ok-search.ensures.found c.requires.ready.same c.state.view_is c.flags-flags.ensures
              c.requires.ready.budget c.top.ensures)
              c.in-End.is c.requires.running.inside,
        ),
      ),
    ),
  ),
)

pub turn-returns-in-Nothing-clause-turned : goal.turn-returns-in-Nothing-clause-turned
turn-returns-in-Nothing-clause-turned t c =
    IfOk-weaker c.rest_of.result _ _
    (λ then e. e ∙ turn-nothing c.args.over.now c.args.levels c.args.state.now
    (ap (λ f. found_of f c.search.new.work.hit) (sym c.in-Nothing.is)
    ∙ found-search c.args.over.now c.args.searcher.now c.args.state.now _ _ _ c.top.result.now _
    c.in_ok-search.ensures.found c.requires.ready.same c.state.view_is c.flags-flags.ensures c.requires.ready.budget
    c.top.ensures))
    c.rest_of.ensures

pub turn-returns-in-Spent-clause-turned : goal.turn-returns-in-Spent-clause-turned
turn-returns-in-Spent-clause-turned t c =
    IfOk-weaker c.rest_of-in-Spent.result _ _
    (λ then e. e
    ∙ ap (λ out. rest c.args.over.now.text.now (let state : State = record {
      place = c.state.inside.place;
      anchor = c.state.inside.anchor;
      first = c.state.inside.first;
      stack = c.state.inside.stack;
      out = out;
    } in state)) c.set_spent.ensures
    ∙ ap (λ s. let state : State = s in rest c.args.over.now.text.now (record state { out = spent state.out }))
    c.state.view_is
    ∙ turn-spent c.args.over.now c.args.levels c.args.state.now
    (ap (λ f. found_of f c.search.new.work.hit) (sym c.in-Spent.is)
    ∙ found-search c.args.over.now c.args.searcher.now c.args.state.now _ _ _ c.top.result.now _
    c.in_ok-search.ensures.found c.requires.ready.same c.state.view_is c.flags-flags.ensures c.requires.ready.budget
    c.top.ensures))
    c.rest_of-in-Spent.ensures

pub turn-returns-in-End-clause-turned : goal.turn-returns-in-End-clause-turned
turn-returns-in-End-clause-turned t c =
    IfOk-weaker c.end_found.result _ _
    (λ then e. e ∙ turn-end c.args.over.now c.args.levels c.args.state.now c.in-At.m c.search.new.work.hit
    (ap (λ f. found_of f c.search.new.work.hit) (sym c.in-At.is)
    ∙ found-search c.args.over.now c.args.searcher.now c.args.state.now _ _ _ c.top.result.now _
    c.in_ok-search.ensures.found c.requires.ready.same c.state.view_is c.flags-flags.ensures c.requires.ready.budget
    c.top.ensures)
    c.in-End.is)
    c.end_found.ensures.turned

pub turn-returns-in-Rule-clause-turned : goal.turn-returns-in-Rule-clause-turned
turn-returns-in-Rule-clause-turned t c =
    IfOk-weaker c.rule_found.result _ _
    (λ then e. e ∙ turn-rule c.args.over.now c.args.levels c.args.state.now c.in-At.m c.search.new.work.hit
    c.in-Rule.id
    (ap (λ f. found_of f c.search.new.work.hit) (sym c.in-At.is)
    ∙ found-search c.args.over.now c.args.searcher.now c.args.state.now _ _ _ c.top.result.now _
    c.in_ok-search.ensures.found c.requires.ready.same c.state.view_is c.flags-flags.ensures c.requires.ready.budget
    c.top.ensures)
    c.in-Rule.is)
    c.rule_found.ensures.turned
