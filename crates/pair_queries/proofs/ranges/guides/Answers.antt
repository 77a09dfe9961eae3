use Rattle.std.proofs.Common.{◌+◌, arith, rules}
use Rattle.text_defs.specs.Text.{lines_of}
use Rattle.answer_defs.specs.PairAnswers.{guides_of_line}
use Rattle.pair_queries.proofs.Lines.{adds-line}
use Rattle.pair_queries.proofs.ranges.guides.Goals as goal

pub loop-line-preserved : goal.loop-line-preserved
loop-line-preserved c =
    adds-line (guides_of_line c.args.tab (lines_of c.args.text.now) c.args.rows.now) c.loop-line.line (c.args.to + 1)
    _ c.loop-line.found _
    (omega arith) c.loop-line.invariant (search rules)
