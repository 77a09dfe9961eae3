use Rattle.std.proofs.Common.{◌<◌, length, ◌∙◌, arith}
use Rattle.mark_source.proofs.Spots.{marks_got, first_is}
use Rattle.mark_source.proofs.spot.mark_at.Goals as goal

pub returns-clause-mark : goal.returns-clause-mark
returns-clause-mark c =
    let there : c.args.spot.line < length c.args.lines.now = omega (arith, c.if-spot-len.false, c.len.ensures.count) in
    first_is c.args.lines.now c.args.spot c.marks.result.now _ c.requires there
    (c.marks.ensures ∙ marks_got c.args.lines.now c.args.spot.line c.get.result.now there c.get.ensures)
