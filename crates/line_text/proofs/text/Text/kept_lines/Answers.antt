use Rattle.std.proofs.Common.{ap, sym, ◌∙◌, arith, length}
use Rattle.text_defs.specs.Text.{lines_of}
use Rattle.line_text.proofs.JoinedLines.{lines_of-joined}
use Rattle.line_text.proofs.PlainLines.{ArePlain-lines}
use Rattle.line_text.proofs.text.Text.kept_lines.Goals as goal

pub returns-clause-lines : goal.returns-clause-lines
returns-clause-lines c =
    let i = c.self.invariant in
    sym (ap lines_of (sym c.self.view_is) ∙ lines_of-joined c.self.inside.lines i.some_line
    (ArePlain-lines c.self.inside.lines i.plain))

pub returns-clause-few_chars : goal.returns-clause-few_chars
returns-clause-few_chars c = omega (
  arith,
  c.self.invariant.few_chars,
  c.self.invariant.counted,
  ap length
      c.self.view_is,
)
