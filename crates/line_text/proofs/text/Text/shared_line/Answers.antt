use Rattle.std.proofs.Common.{◌≡◌, length, ap, ◌∙◌, arith}
use Rattle.text_defs.specs.Text.{lines_of, line_in}
use Rattle.line_text.proofs.JoinedLines.{line_in-get_or, length-line_in}
use Rattle.line_text.proofs.PlainLines.{line_in-IsPlain}
use Rattle.line_text.proofs.Places.{joined-lines_of}
use Rattle.line_text.proofs.text.Text.shared_line.Goals as goal
use Rattle.line_text.proofs.text.Text.shared_line.Goals.{After-get}

is_line : (c : After-get) → c.get.result.now ≡ line_in (lines_of c.args.self.now) c.args.n
is_line c =
    let line = c.get.result.now in
    rw c.kept_lines.ensures.lines at c.get.ensures ∙ line_in-get_or (lines_of c.args.self.now) c.args.n line c.requires

pub returns-clause-line : goal.returns-clause-line
returns-clause-line c = is_line c

pub returns-clause-plain : goal.returns-clause-plain
returns-clause-plain c =
    rw (is_line c) (line_in-IsPlain (lines_of c.args.self.now) c.args.n
    (rw c.kept_lines.ensures.lines at c.kept_lines.ensures.plain))

pub returns-clause-few : goal.returns-clause-few
returns-clause-few c =
    let text = c.args.self.now in
    omega (
      arith,
      ap length (is_line c),
      length-line_in (lines_of text) c.args.n,
      ap length (joined-lines_of text),
      c.kept_lines.ensures.few_chars,
    )
