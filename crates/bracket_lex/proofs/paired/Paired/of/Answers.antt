use Rattle.std.proofs.Common.{length, ◌∙◌, ap, arith}
use Rattle.bracket_lex.proofs.TextSteps.{text_rows, text_bound}
use Rattle.bracket_lex.proofs.paired.Paired.of.Goals as goal

pub loop-line-preserved : goal.loop-line-preserved
loop-line-preserved c =
    let lines = c.loop-line.line-iterator in
    let rest = c.next.new.self in
    let line = c.in-Some.line.now in
    let at = c.in-Some.ensures.steps in
    let marks = c.marks.ensures ∙ ap (λ line. line.marks) c.get.ensures in
    let kept = rw (c.loop-line.invariant.limit) at c.in_ok-take_line.ensures in
    let count = text_bound c.loop-line.n lines rest line c.marks.result.now at marks in
    record {
      limit = c.in_ok-take_line.ensures.limit ∙ c.loop-line.invariant.limit;
      rows = text_rows c.args.limit c.loop-line.n c.loop-line.open_marks c.take_line.new.self lines rest line
          c.marks.result.now at
          marks kept.rows kept.entries ∙ c.loop-line.invariant.rows;
      bound = let rows = c.in_ok-take_line.ensures.bound in
          let total = c.loop-line.invariant.bound in
          omega (arith, count);
      lines = omega (arith, ap length at, c.loop-line.invariant.lines);
    }
