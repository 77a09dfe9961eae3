use Rattle.std.proofs.Common.{◌≡◌, ◌++◌, take, drop}
use Rattle.line_text.specs.Lines.{ended}
use Rattle.line_text.proofs.draft.Draft.put_lines.Given as goal

abbrev pub invariant-loop-n : goal.invariant-loop-n
invariant-loop-n l = l.self ≡ l.initial.self ++ ended (take l.n (drop l.from l.lines))
