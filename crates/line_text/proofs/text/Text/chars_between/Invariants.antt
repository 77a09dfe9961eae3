use Rattle.std.proofs.Common.{◌≡◌, ◌+◌, ◌*◌, ◌≤◌}
use Rattle.text_defs.specs.Text.{lines_of}
use Rattle.line_text.proofs.Places.{start}
use Rattle.line_text.proofs.text.Text.chars_between.Given as goal

-- the lines so far, and the end's column
abbrev pub invariant-loop-n : goal.invariant-loop-n
invariant-loop-n l = record {
  summed : l.chars + start (lines_of l.self) l.from.line ≡ start (lines_of l.self) l.n + l.fn.to.col;
  bounded : l.chars ≤ l.fn.to.col + 4194305 * l.n;
}
