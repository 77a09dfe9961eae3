use Rattle.std.proofs.Common.{◌≡◌, ◌<◌, ◌+◌, length, take, drop, not, ap, ◌∙◌, arith}
use Rattle.std.proofs.lemmas.Bool.Decides.{nat_tests}
use Rattle.line_text.proofs.JoinedLines.{line_in-get_or, run_added, line_added}
use Rattle.line_text.proofs.OpenLines.{nothing_open}
use Rattle.line_text.proofs.PlainLines.{ArePlain-append, ArePlain-take, ArePlain-drop, line_in-IsPlain}
use Rattle.line_text.proofs.draft.Draft.put_lines.Goals as goal

pub invariant_of-self-then-is_empty : goal.invariant_of-self-then-is_empty
invariant_of-self-then-is_empty c =
    let run = take c.args.count (drop c.args.from c.args.lines.now) in
    let held = c.self.invariant in
    let plain = ArePlain-take c.args.count _ (ArePlain-drop c.args.from c.args.lines.now c.requires.plain) in
    rw (c.in_ok-self-inside.ensures, c.replace-done.ensures.value)
    (ArePlain-append c.self.inside.done run held.0 plain, held.1, held.2)

pub returns-then-is_empty : goal.returns-then-is_empty
returns-then-is_empty c =
    let run = take c.args.count (drop c.args.from c.args.lines.now) in
    let empty : length c.self.inside.current.items ≡ 0 =
    grind (arith, nat_tests, c.is_empty.ensures, c.if-is_empty.true, c.self.inside.current.ok.0) in
    run_added c.self.inside.done c.in_ok-self-inside.field-0 run _ c.args.self.now
    (rw c.replace-done.ensures.value at c.in_ok-self-inside.ensures)
    (nothing_open c.self.inside.shared c.self.inside.current.items (c.is_none.ensures ∙ ap not c.if-is_none.true)
    empty) c.self.view_is

pub put_part-requires-clause-plain : goal.put_part-requires-clause-plain
put_part-requires-clause-plain c =
    let lines = c.args.lines.now in
    let n = c.args.from + c.loop-n.n in
    let there : n < length lines = omega (arith, c.requires.within, c.loop-n-test.true) in
    rw (c.get-line.ensures ∙ line_in-get_or lines n c.get-line.result.now there)
    (line_in-IsPlain lines n c.requires.plain)

pub loop-n-preserved : goal.loop-n-preserved
loop-n-preserved c =
    let line = c.get-line.result.now in
    line_added c.args.lines.now c.args.from c.loop-n.n (length c.chars.result.now) line c.args.self.now c.loop-n.self
    c.put_part.new.self c.end_line.new.self (omega (arith, c.requires.within, c.loop-n-test.true)) c.get-line.ensures
    (ap length (c.chars.ensures ∙ c.get.ensures)) c.loop-n.invariant c.in_ok-put_part.ensures c.in_ok-end_line.ensures
