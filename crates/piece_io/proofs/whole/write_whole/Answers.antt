use Rattle.std.proofs.Common.{take, drop, arith, length-drop, ap, ◌∙◌}
use Rattle.std.proofs.lemmas.List.{take_rest}
use Rattle.piece_io.specs.Told.{appended}
use Rattle.piece_io.proofs.Pieces.{appended-take}
use Rattle.piece_io.proofs.whole.write_whole.Goals as goal

pub loop-done-preserved : goal.loop-done-preserved
loop-done-preserved g c =
    let takes = rw take_rest at c.in_ok-done.ensures.takes in
    let within = rw take_rest at c.in_ok-done.ensures.within in
    record {
      within = omega (arith, within, length-drop c.loop-done.done c.args.bytes.now);
      front = takes
          ∙ ap (λ held. appended held (take c.in_ok-done.field-0 (drop c.loop-done.done c.args.bytes.now)))
          c.loop-done.invariant.front
          ∙ appended-take (g.K.Sink.held c.args.sink.now) c.loop-done.done c.in_ok-done.field-0 c.args.bytes.now;
      counts = c.in_ok-done.ensures.counts ∙ c.loop-done.invariant.counts;
    }
