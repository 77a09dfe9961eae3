use Rattle.std.proofs.Common.{◌≡◌, ◌+◌, ◌-◌, ℕ, length, ap, ◌∙◌, arith}
use Rattle.line_text.proofs.Places.{start, offset_end}
use Rattle.text_defs.specs.Text.{lines_of, line_count}
use Rattle.line_text.proofs.text.Text.end.Goals as goal

pub returns-clause-whole : goal.returns-clause-whole
returns-clause-whole c =
    let text = c.args.self.now in
    let last : c.lines-line.result - 1 + 1 ≡ line_count text =
    omega (arith, c.lines-line.ensures.some, c.lines-line.ensures.count) in
    ap (λ (n : ℕ). start (lines_of text) (c.lines-line.result - 1) + n)
    (ap (length {A = ℕ}) (c.chars.ensures ∙ c.line.ensures.line)) ∙ offset_end text (c.lines-line.result - 1) last
