use Rattle.std.proofs.Common.{◌≡◌, ◌+◌, ◌-◌, ◌++◌, ℕ, length, ap, ◌∙◌, arith, refl}
use Rattle.text_defs.specs.Text.{lines_of, line_in}
use Rattle.line_text.proofs.Outcomes.{OnOk-map}
use Rattle.line_text.proofs.Places.{start, piece, copied_lines, copied_part, IsPlace-holds, IsFrom-is_before}
use Rattle.line_text.proofs.Places.{IsFrom-lines, IsFrom-cols, joined-lines_of}
use Rattle.line_text.proofs.text.Text.copy_between.Goals as goal

-- within one line
pub returns-then-from-to : goal.returns-then-from-to
returns-then-from-to c =
    let text = c.args.self.now in
    let from = c.args.from in
    let to = c.args.to in
    let lines = lines_of text in
    let there = IsPlace-holds text to c.requires.to in
    let cols = IsFrom-cols from to (IsFrom-is_before from to c.requires.forward) (omega (arith, c.if-from-to.true)) in
    let line = c.shared_line-first.ensures.line ∙ ap (line_in lines) c.if-from-to.true in
    let whole = c.args.draft.now ++ piece lines from.line from.col (start lines to.line + to.col) in
    rw (joined-lines_of text) at (OnOk-map c.put_part.result (λ e. copied_part lines from.line from.col to
    c.shared_line-first.result.now c.args.draft.now c.put_part.new.self whole there c.if-from-to.true cols line e
    refl) c.put_part.ensures)

-- from one line to a later one
pub returns : goal.returns
returns c =
    let text = c.args.self.now in
    let from = c.args.from in
    let to = c.args.to in
    let lines = lines_of text in
    let first = c.shared_line-first.result.now in
    let there = IsPlace-holds text to c.requires.to in
    let rises = IsFrom-lines from to (IsFrom-is_before from to c.requires.forward) in
    let count : ℕ = to.line - (from.line + 1) in
    let at : (from.line + 1) + count ≡ to.line = omega (arith, rises, c.if-from-to.false) in
    let len = ap length (c.chars.ensures ∙ c.get.ensures) in
    let run = rw c.kept_lines.ensures.lines at c.in_ok-put_lines.ensures in
    rw (joined-lines_of text) at (OnOk-map c.put_part-3.result (λ e. copied_lines lines from.line from.col
    (length c.chars.result.now) count to first c.shared_line.result.now c.args.draft.now c.put_part-2.new.self
    c.put.new.self
    c.put_lines.new.self c.put_part-3.new.self there at (IsPlace-holds text from c.requires.from).col
    c.shared_line-first.ensures.line len c.shared_line.ensures.line c.in_ok-put_part.ensures c.in_ok-put.ensures run e)
    c.put_part-3.ensures)
