use Rattle.std.proofs.Common.{◌∙◌, ap, arith, length}
use Rattle.piece_io.specs.declared.line_cutter.Cut.{Cut}
use Rattle.piece_io.specs.Cuts.{Cutting}
use Rattle.bracket_program.proofs.GivenLines.{given-next, ended-next, last-next}
use Rattle.bracket_program.proofs.Replying.{line_written, text_after_line, line_cut_short, on_err}
use Rattle.bracket_program.proofs.reply_lines.reply_to_lines.Goals as goal

pub returns-in_err-reply_to-clause-front : goal.returns-in_err-reply_to-clause-front
returns-in_err-reply_to-clause-front g c =
    let next = rw c.in-Some.is at c.in_ok-cut.ensures.line in
    on_err c.from_residual-in_err-reply_to.result
    (line_cut_short _ _ _ _ (c.in-Some.cut, c.next_line.new.self) c.loop-cut.invariant.settings next
    c.loop-cut.invariant.writes c.in_err-reply_to.ensures.front)

pub loop-cut-preserved-in_ok-reply_to : goal.loop-cut-preserved-in_ok-reply_to
loop-cut-preserved-in_ok-reply_to g c =
    let next = rw c.in-Some.is at c.in_ok-cut.ensures.line in
    let p : Cut × Cutting = (c.in-Some.cut, c.next_line.new.self) in
    record {
      writes = line_written _ _ _ _ _ _ p c.loop-cut.invariant.settings next c.loop-cut.invariant.writes
          c.in_ok-reply_to.ensures.writes c.in_ok-reply_to.ensures.text;
      text = text_after_line _ _ _ _ _ p c.loop-cut.invariant.settings next c.in_ok-reply_to.ensures.text
          ∙ c.loop-cut.invariant.text;
      settings = c.in_ok-reply_to.ensures.settings ∙ c.loop-cut.invariant.settings;
      counts = c.in_ok-reply_to.ensures.counts ∙ c.loop-cut.invariant.counts;
      ended = ended-next _ p next ∙ c.loop-cut.invariant.ended;
      unfinished = λ going. last-next _ p (c.loop-cut.invariant.ended ∙ going) next
          ∙ c.loop-cut.invariant.unfinished going;
    }

pub loop-cut-preserved : goal.loop-cut-preserved
loop-cut-preserved g c =
    let next = rw c.in-Some.is at c.in_ok-cut.ensures.line in
    let p : Cut × Cutting = (c.in-Some.cut, c.next_line.new.self) in
    record {
      writes = line_written _ _ _ _ _ _ p c.loop-cut.invariant.settings next c.loop-cut.invariant.writes
          c.in_ok-reply_to.ensures.writes c.in_ok-reply_to.ensures.text;
      text = text_after_line _ _ _ _ _ p c.loop-cut.invariant.settings next c.in_ok-reply_to.ensures.text
          ∙ c.loop-cut.invariant.text;
      settings = c.in_ok-reply_to.ensures.settings ∙ c.loop-cut.invariant.settings;
      counts = c.in_ok-reply_to.ensures.counts ∙ c.loop-cut.invariant.counts;
      ended = ended-next _ p next ∙ c.loop-cut.invariant.ended;
      unfinished = λ going. last-next _ p (c.loop-cut.invariant.ended ∙ going) next
          ∙ c.loop-cut.invariant.unfinished going;
    }

pub loop-cut-smaller-in_ok-reply_to : goal.loop-cut-smaller-in_ok-reply_to
loop-cut-smaller-in_ok-reply_to g c =
    let next = rw c.in-Some.is at c.in_ok-cut.ensures.line in
    omega (arith, ap length (given-next _ (c.in-Some.cut, c.next_line.new.self) next))

pub loop-cut-smaller : goal.loop-cut-smaller
loop-cut-smaller g c =
    let next = rw c.in-Some.is at c.in_ok-cut.ensures.line in
    omega (arith, ap length (given-next _ (c.in-Some.cut, c.next_line.new.self) next))
