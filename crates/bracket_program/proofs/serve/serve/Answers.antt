use Rattle.std.proofs.Common.{◌≡◌, ◌≤◌, ◌∙◌, ap, subst, refl, arith}
use Rattle.std.proofs.lemmas.Result.{err_from_is_err_and}
use Rattle.piece_io.specs.Told.{appended, risen}
use Rattle.script_words.specs.ReplyText.{reply_text}
use Rattle.session_defs.specs.Output.{most_script_bytes}
use Rattle.bracket_program.specs.Ends.{outside, WritesFront}
use Rattle.bracket_program.specs.Sessions.{session_in}
use Rattle.bracket_program.proofs.ServingLaws.{serving-start, serving-more, serving-done, serving-cut, front-at}
use Rattle.bracket_program.proofs.ServingLaws.{front-more, front-last, front-opened, front-nothing, reply-end}
use Rattle.bracket_program.proofs.serve.serve.Goals as goal

pub returns-in_err-buffer-clause-ends : goal.returns-in_err-buffer-clause-ends
returns-in_err-buffer-clause-ends g c =
    let left = g.S.Source.left in
    let reads = g.S.Source.faults in
    let held = g.K.Sink.held in
    let writes = g.K.Sink.faults in
    let before = outside (left c.args.script.now) (held c.args.sink.now) (reads c.args.script.now)
    (writes c.args.sink.now) in
    let session = session_in c.args.document.now in
    let p = err_from_is_err_and c.from_residual-in_err-buffer.result c.from_residual-in_err-buffer.ensures.1 in
    rw (p.1, p.2) (front-nothing before before session refl, refl, refl)

pub returns-in_err-write_reply-clause-ends : goal.returns-in_err-write_reply-clause-ends
returns-in_err-write_reply-clause-ends g c =
    let left = g.S.Source.left in
    let reads = g.S.Source.faults in
    let held = g.K.Sink.held in
    let writes = g.K.Sink.faults in
    let before = outside (left c.args.script.now) (held c.args.sink.now) (reads c.args.script.now)
    (writes c.args.sink.now) in
    let session = session_in c.args.document.now in
    let after = outside (left c.args.script.now) (held c.write_reply.new.sink) (reads c.args.script.now)
    (writes c.write_reply.new.sink) in
    let front = subst (λ r. WritesFront (held c.args.sink.now) (held c.write_reply.new.sink) (reply_text r))
    c.opened.ensures c.in_err-write_reply.ensures.front in
    let p = err_from_is_err_and c.from_residual-in_err-write_reply.result
    c.from_residual-in_err-write_reply.ensures.1 in
    rw (p.1, p.2) (reply-end before after session before.writes _ refl refl c.in_err-write_reply.ensures.ends
    (front-opened before after session front))

pub loop-taken-init : goal.loop-taken-init
loop-taken-init g c = record {
  serving = serving-start _ _ _ _ refl (c.in_ok-write_reply.ensures.ok
      ∙ ap (λ r. appended (g.K.Sink.held c.args.sink.now) (reply_text r)) c.opened.ensures) refl
      c.in_ok-write_reply.ensures.counts c.in_ok-cutter.ensures.cuts c.in_ok-cutter.ensures.ended;
  settings = refl;
  few = omega arith;
}

pub returns-in_err-feed-clause-ends : goal.returns-in_err-feed-clause-ends
returns-in_err-feed-clause-ends g c =
    let p = err_from_is_err_and c.from_residual-in_err-feed.result c.from_residual-in_err-feed.ensures.1 in
    rw (p.1, p.2) (
      front-at (outside (g.S.Source.left c.read_piece.new.script) (g.K.Sink.held c.loop-taken.sink)
          (g.S.Source.faults c.read_piece.new.script) (g.K.Sink.faults c.loop-taken.sink))
          c.loop-taken.invariant.serving refl,
      c.loop-taken.invariant.serving.writes_stand,
      c.in-Ok.ensures.counts ∙ c.loop-taken.invariant.serving.reads_stand,
    )

pub loop-taken-preserved : goal.loop-taken-preserved
loop-taken-preserved g c = record {
  serving = serving-more _ _ _ _ c.in-Ok.come c.read_piece.new.buffer c.loop-taken.invariant.settings
      c.loop-taken.invariant.serving
      (record {
        fits = omega (arith, c.in-Ok.ensures.within);
        gives = c.in-Ok.ensures.gives;
        feeds = c.in_ok-feed.ensures.ok;
        going = c.in_ok-feed.ensures.ended;
        writes = c.in_ok-reply_to_lines-2.ensures.writes;
        answers = c.in_ok-reply_to_lines-2.ensures.text;
        none_left = c.in_ok-reply_to_lines-2.ensures.none_left;
        ended = c.in_ok-reply_to_lines-2.ensures.ended;
        last = c.in_ok-reply_to_lines-2.ensures.unfinished c.in_ok-feed.ensures.ended;
        reads_stand = c.in-Ok.ensures.counts;
        writes_stand = c.in_ok-reply_to_lines-2.ensures.counts;
      });
  settings = c.in_ok-reply_to_lines-2.ensures.settings ∙ c.loop-taken.invariant.settings;
  few = omega (arith, c.in-Ok.ensures.within);
}

pub returns-then-come-eq0-clause-done : goal.returns-then-come-eq0-clause-done
returns-then-come-eq0-clause-done g c =
    serving-done _ c.end.new.self c.in-Ok.come c.read_piece.new.buffer c.loop-taken.invariant.settings
    c.loop-taken.invariant.serving c.loop-taken-test.true c.if-come-eq0.true c.in-Ok.ensures.gives
    c.end.ensures.cuts c.end.ensures.ended c.in_ok-reply_to_lines.ensures.writes c.in-Ok.ensures.counts
    c.in_ok-reply_to_lines.ensures.counts

pub returns-in_err-reply_to_lines-clause-ends : goal.returns-in_err-reply_to_lines-clause-ends
returns-in_err-reply_to_lines-clause-ends g c =
    let left = g.S.Source.left in
    let reads = g.S.Source.faults in
    let held = g.K.Sink.held in
    let writes = g.K.Sink.faults in
    let before = outside (left c.args.script.now) (held c.args.sink.now) (reads c.args.script.now)
    (writes c.args.sink.now) in
    let after = outside (left c.read_piece.new.script) (held c.reply_to_lines.new.sink)
    (reads c.read_piece.new.script) (writes c.reply_to_lines.new.sink) in
    let p = err_from_is_err_and c.from_residual-in_err-reply_to_lines.result
    c.from_residual-in_err-reply_to_lines.ensures.1 in
    let serving = c.loop-taken.invariant.serving in
    rw (p.1, p.2)
    (reply-end before after (session_in c.args.document.now) (writes c.loop-taken.sink) _
    serving.writes_stand (c.in-Ok.ensures.counts ∙ serving.reads_stand) c.in_err-reply_to_lines.ensures.ends
    (front-last after _ c.end.new.self c.in-Ok.come c.read_piece.new.buffer c.loop-taken.invariant.settings serving
    c.if-come-eq0.true c.in-Ok.ensures.gives c.end.ensures.cuts c.end.ensures.ended
    c.in_err-reply_to_lines.ensures.front))

pub returns-in_err-reply_to_lines-2-clause-ends : goal.returns-in_err-reply_to_lines-2-clause-ends
returns-in_err-reply_to_lines-2-clause-ends g c =
    let left = g.S.Source.left in
    let reads = g.S.Source.faults in
    let held = g.K.Sink.held in
    let writes = g.K.Sink.faults in
    let before = outside (left c.args.script.now) (held c.args.sink.now) (reads c.args.script.now)
    (writes c.args.sink.now) in
    let after = outside (left c.read_piece.new.script) (held c.reply_to_lines-in-loop-taken.new.sink)
    (reads c.read_piece.new.script) (writes c.reply_to_lines-in-loop-taken.new.sink) in
    let p = err_from_is_err_and c.from_residual-in_err-reply_to_lines-2.result
    c.from_residual-in_err-reply_to_lines-2.ensures.1 in
    let serving = c.loop-taken.invariant.serving in
    rw (p.1, p.2)
    (reply-end before after (session_in c.args.document.now) (writes c.loop-taken.sink) _
    serving.writes_stand (c.in-Ok.ensures.counts ∙ serving.reads_stand) c.in_err-reply_to_lines-2.ensures.ends
    (front-more after _ c.feed.new.self c.in-Ok.come c.read_piece.new.buffer c.loop-taken.invariant.settings serving
    c.in-Ok.ensures.gives c.in_ok-feed.ensures.ok c.in_ok-feed.ensures.ended
    c.in_err-reply_to_lines-2.ensures.front))

pub returns-in_default-clause-ends : goal.returns-in_default-clause-ends
returns-in_default-clause-ends g c =
    let serving = c.loop-taken.invariant.serving in (
      serving-cut serving c.in_default.ensures.stays refl refl,
      omega (arith, serving.count, c.loop-taken-test.true),
      subst (λ n. risen n ≤ g.S.Source.faults c.read_piece.new.script) serving.reads_stand c.in_default.ensures.rises,
    )

pub returns-clause-ends : goal.returns-clause-ends
returns-clause-ends g c =
    let serving = c.loop-taken.invariant.serving in
    let full : c.loop-taken.taken ≡ most_script_bytes =
    omega (arith, c.loop-taken.invariant.few, c.loop-taken-test.false) in
    (serving-cut serving refl refl refl, serving.count ∙ full, serving.reads_stand)

pub returns-in_err-cutter-clause-ends : goal.returns-in_err-cutter-clause-ends
returns-in_err-cutter-clause-ends g c =
    let before = outside (g.S.Source.left c.args.script.now) (g.K.Sink.held c.args.sink.now)
    (g.S.Source.faults c.args.script.now) (g.K.Sink.faults c.args.sink.now) in
    let p = err_from_is_err_and c.from_residual.result c.from_residual.ensures.1 in
    rw (p.1, p.2)
    (front-nothing before before (session_in c.args.document.now) refl, refl, refl)
