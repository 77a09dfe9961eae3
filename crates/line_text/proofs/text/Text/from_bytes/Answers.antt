use Rattle.std.proofs.Common.{◌≡◌, arith}
use Rattle.text_defs.specs.Text.{text_of}
use Rattle.line_text.specs.Sizes.{IsSizeOf}
use Rattle.line_text.proofs.Outcomes.{on_ok}
use Rattle.line_text.proofs.FileTexts.{has_too_many_chars, has_too_many_lines, has_text}
use Rattle.line_text.proofs.text.Text.from_bytes.Goals as goal
use Rattle.line_text.proofs.text.Text.from_bytes.Goals.{After-size_of-size}

counts : (c : After-size_of-size) → IsSizeOf (text_of c.args.bytes.now) c.size_of-size.result
counts c = rw c.in-Ok.ensures.cases.0 at c.size_of-size.ensures

pub returns-then-size-gt-MOST_CHARS-clause-too_many_chars : goal.returns-then-size-gt-MOST_CHARS-clause-too_many_chars
returns-then-size-gt-MOST_CHARS-clause-too_many_chars c count e =
    let start = (goal.at.returns-then-size-gt-MOST_CHARS-clause-too_many_chars c).After-size_of-size in
    let is : c.size_of-size.result.chars ≡ count = cc in
    rw (← is) (has_too_many_chars c.args.bytes.now c.size_of-size.result c.in-Ok.ensures.cases.1 (omega arith)
    (counts start) c.if-size-gt-MOST_CHARS.true)

pub returns-then-size-gt-MOST_LINES-clause-too_many_lines : goal.returns-then-size-gt-MOST_LINES-clause-too_many_lines
returns-then-size-gt-MOST_LINES-clause-too_many_lines c count e =
    let start = (goal.at.returns-then-size-gt-MOST_LINES-clause-too_many_lines c).After-size_of-size in
    let is : c.size_of-size.result.lines ≡ count = cc in
    rw (← is) (has_too_many_lines c.args.bytes.now c.size_of-size.result c.in-Ok.ensures.cases.1 (counts start)
    c.if-size-gt-MOST_CHARS.false c.if-size-gt-MOST_LINES.true)

pub returns-clause-is_text : goal.returns-clause-is_text
returns-clause-is_text c =
    let start = (goal.at.returns-clause-is_text c).After-size_of-size in
    let is = has_text c.args.bytes.now c.size_of-size.result c.in-Ok.ensures.cases.1 (counts start)
    c.if-size-gt-MOST_CHARS.false c.if-size-gt-MOST_LINES.false in
    on_ok c.map_err-2.result is
