use Rattle.std.proofs.Common.{◌≡◌, ◌+◌, ◌≤◌, ℕ, length, ap, arith, ◌∙◌}
use Rattle.text_defs.specs.Text.{lines_of}
use Rattle.line_text.proofs.Places.{start, start_next, IsPlace-holds, IsFrom-is_before, IsFrom-lines, offset_le}
use Rattle.line_text.proofs.text.Text.chars_between.Goals as goal
use Rattle.line_text.proofs.text.Text.chars_between.Goals.{After-from}

pub loop-n-preserved : goal.loop-n-preserved
loop-n-preserved c =
    let lines = lines_of c.args.self.now in
    let to = IsPlace-holds c.args.self.now c.args.to c.requires.to in
    let below = c.loop-n-test.true in
    let line = ap (length {A = ℕ}) (c.chars.ensures ∙ c.line.ensures.line) in
    record {
      summed = omega (arith, start_next lines c.loop-n.n (omega arith), line, c.loop-n.invariant.summed);
      bounded = omega (
        arith,
        line,
        ap (length {A = ℕ}) c.chars.ensures,
        c.line.ensures.few,
        c.loop-n.invariant.bounded,
      );
    }

fits : (c : After-from) → (c.args.from.col ≤ c.loop-n.chars)
    × (start (lines_of c.args.self.now) c.args.from.line + c.loop-n.chars
    ≡ start (lines_of c.args.self.now) c.args.to.line + c.args.to.col)
fits c =
    let text = c.args.self.now in
    let lines = lines_of text in
    let from = IsPlace-holds text c.args.from c.requires.from in
    let to = IsPlace-holds text c.args.to c.requires.to in
    let forward = IsFrom-is_before c.args.from c.args.to c.requires.forward in
    let at_end : c.loop-n.n ≡ c.args.to.line =
    omega (arith, IsFrom-lines c.args.from c.args.to forward, c.loop-n.auto.n-end) in
    let e = ap (start lines) at_end in (
      omega (arith, e, c.loop-n.invariant.summed, offset_le lines c.args.from c.args.to from to forward),
      omega
          (arith, e, c.loop-n.invariant.summed),
    )

pub overflow_sub-result : goal.overflow_sub-result
overflow_sub-result c = rw c.from.ensures ((fits c).0)

pub returns : goal.returns
returns c = let f = fits c in omega (arith, f.0, f.1, c.from.ensures)
