use Rattle.std.proofs.Common.{length, inl, sym, ap, ◌∙◌, arith}
use Rattle.mark_source.proofs.Spots.{marks_got, next_line}
use Rattle.mark_source.proofs.spot.settled.Goals as goal

pub overflow_add-spot : goal.overflow_add-spot
overflow_add-spot c = omega (arith, c.loop-spot.invariant.there, c.len-count.ensures.bound)

pub loop-spot-preserved : goal.loop-spot-preserved
loop-spot-preserved c =
    let there = c.loop-spot.invariant.there in
    let marks = c.marks.ensures ∙ marks_got c.args.lines.now c.loop-spot.spot.line c.get.result.now there c.get.ensures in
    let count = ap length marks in
    record {
      there = omega (arith, there, c.if-spot-count.false, c.len-count.ensures.count);
      within = omega arith;
      same = sym (next_line c.args.lines.now c.loop-spot.spot.line c.loop-spot.spot.index there
          (omega (arith, c.loop-spot.invariant.within, count, c.loop-spot-test.true))) ∙ c.loop-spot.invariant.same;
    }

pub returns-clause-is : goal.returns-clause-is
returns-clause-is c =
    let there = c.loop-spot.invariant.there in
    let marks = c.marks.ensures ∙ marks_got c.args.lines.now c.loop-spot.spot.line c.get.result.now there c.get.ensures in
    inl (there, omega (arith, ap length marks, c.loop-spot-test.false))
