use Rattle.std.proofs.Common.{◌≡◌, ◌∙◌, ◌+◌, refl, sym, arith}
use Rattle.std.proofs.lemmas.Result.{err_from_is_err_and}
use Rattle.session_defs.specs.MadeOutput.{text_at_summary}
use Rattle.bracket_program.specs.Sessions.{settings_in}
use Rattle.bracket_program.proofs.Replying.{on_err}
use Rattle.bracket_program.proofs.SummaryLaws.{told_none, told_next, told_front, told_all, told_stops, next_text, text_at_first, end_from}
use Rattle.bracket_program.proofs.summaries.tell.Goals as goal

pub returns-in_err-write_summary-clause-front : goal.returns-in_err-write_summary-clause-front
returns-in_err-write_summary-clause-front g c =
    let settings = settings_in c.args.document.now in
    let held = g.K.Sink.held c.args.sink.now in
    let first : c.args.document.now.text ≡ text_at_summary c.args.lines 0 =
    c.requires.at_first ∙ sym (text_at_first c.args.lines) in
    on_err c.from_residual.result
    (told_front settings settings c.args.lines 0 _ held held _ (omega arith) refl first
    (told_none settings c.args.lines held) c.in_err-write_summary.ensures.front)

pub loop-round-init : goal.loop-round-init
loop-round-init g c =
    let settings = settings_in c.args.document.now in
    let held = g.K.Sink.held c.args.sink.now in
    let first : c.args.document.now.text ≡ text_at_summary c.args.lines 0 =
    c.requires.at_first ∙ sym (text_at_first c.args.lines) in
    record {
      writes = told_next settings settings c.args.lines 0 _ held held _ (omega arith) refl first
          (told_none settings c.args.lines held) c.in_ok-write_summary.ensures.writes;
      text = c.in_ok-write_summary.ensures.text ∙ first;
      settings = c.in_ok-write_summary.ensures.settings;
      counts = c.in_ok-write_summary.ensures.counts;
      few = omega arith;
    }

pub returns-in_err-make_edits-clause-front : goal.returns-in_err-make_edits-clause-front
returns-in_err-make_edits-clause-front g c =
    on_err c.from_residual-in_err-make_edits.result
    (told_stops _ _ _ _ _ c.loop-round.invariant.writes)

pub returns-in_err-make_edits-clause-ends : goal.returns-in_err-make_edits-clause-ends
returns-in_err-make_edits-clause-ends g c =
    let p = err_from_is_err_and c.from_residual-in_err-make_edits.result
    c.from_residual-in_err-make_edits.ensures.1 in
    rw (p.1, p.2) c.loop-round.invariant.counts

pub returns-in_err-write_summary-2-clause-front : goal.returns-in_err-write_summary-2-clause-front
returns-in_err-write_summary-2-clause-front g c =
    let more = c.loop-round-test.true in
    on_err c.from_residual-in_err-write_summary-2.result
    (told_front (settings_in c.args.document.now) _ c.args.lines (c.loop-round.round + 1) _ _ _ _ (omega (arith, more))
    (c.in_ok-make_edits.ensures.settings ∙ c.loop-round.invariant.settings)
    (c.in_ok-make_edits.ensures.text ∙ next_text c.args.lines c.loop-round.round) c.loop-round.invariant.writes
    c.in_err-write_summary-2.ensures.front)

pub returns-in_err-write_summary-2-clause-ends : goal.returns-in_err-write_summary-2-clause-ends
returns-in_err-write_summary-2-clause-ends g c =
    let p = err_from_is_err_and c.from_residual-in_err-write_summary-2.result
    c.from_residual-in_err-write_summary-2.ensures.1 in
    rw (p.1, p.2) (end_from _ _ _ _ c.loop-round.invariant.counts c.in_err-write_summary-2.ensures.ends)

pub loop-round-preserved : goal.loop-round-preserved
loop-round-preserved g c =
    let more = c.loop-round-test.true in
    let settings = c.in_ok-make_edits.ensures.settings ∙ c.loop-round.invariant.settings in
    let text = c.in_ok-make_edits.ensures.text ∙ next_text c.args.lines c.loop-round.round in
    record {
      writes = told_next (settings_in c.args.document.now) _ c.args.lines (c.loop-round.round + 1) _ _ _ _
          (omega (arith, more)) settings text c.loop-round.invariant.writes c.in_ok-write_summary-2.ensures.writes;
      text = c.in_ok-write_summary-2.ensures.text ∙ text;
      settings = c.in_ok-write_summary-2.ensures.settings ∙ settings;
      counts = c.in_ok-write_summary-2.ensures.counts ∙ c.loop-round.invariant.counts;
      few = omega (arith, more);
    }

pub returns-clause-writes : goal.returns-clause-writes
returns-clause-writes g c =
    told_all (settings_in c.args.document.now) c.args.lines (c.loop-round.round + 1) _ _
    (omega (arith, c.loop-round.invariant.few, c.loop-round-test.false)) c.loop-round.invariant.writes
