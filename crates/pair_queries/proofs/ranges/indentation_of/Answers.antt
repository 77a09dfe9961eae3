use native.Mathlib.Omega.{arith}
use Rattle.text_defs.specs.Text.{lines_of}
use Rattle.pair_queries.proofs.Lines.{line_in-past}
use Rattle.pair_queries.proofs.ranges.indentation_of.Goals as goal

pub returns-else-line-lines : goal.returns-else-line-lines
returns-else-line-lines c = simp (line_in-past (lines_of c.args.text.now) c.args.line
    (omega (arith, c.lines.ensures.count, c.if-line-lines.false)))
