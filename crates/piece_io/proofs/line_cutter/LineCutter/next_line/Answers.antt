use Rattle.std.proofs.Common.{false, drop, ◌+◌, sym, ap, ◌∙◌}
use Rattle.std.proofs.lemmas.List.{take_rest, drop-drop}
use Rattle.piece_io.specs.Cuts.{next_cut}
use Rattle.piece_io.specs.Pending.{EndsLine}
use Rattle.piece_io.proofs.Cutting.{next-line, pending-has}
use Rattle.piece_io.proofs.line_cutter.LineCutter.next_line.Goals as goal

pub returns-in_ok-cut-in-Some-clause-line : goal.returns-in_ok-cut-in-Some-clause-line
returns-in_ok-cut-in-Some-clause-line c =
    let left = drop c.self.inside.start c.self.inside.bytes.items in
    let ends : EndsLine left c.in-Some.at = rw (← c.deref.ensures.value, ← take_rest) c.in-Some.ensures in
    let next = next-line c.self.inside.over c.self.inside.ended left
    (drop (c.self.inside.start + (c.in-Some.at + 1)) c.self.inside.bytes.items)
    c.in-Some.at c.in_ok-cut-in-Some.cut ends
    (sym (drop-drop (c.in-Some.at + 1) c.self.inside.start c.self.inside.bytes.items))
    (rw (← c.deref.ensures.value, ← take_rest) c.in_ok-cut-in-Some.ensures) in
    ap next_cut (sym c.self.view_is) ∙ next

pub returns-in_ok-cut-in-Some-clause-unfinished : goal.returns-in_ok-cut-in-Some-clause-unfinished
returns-in_ok-cut-in-Some-clause-unfinished c =
    pending-has false (drop (c.self.inside.start + (c.in-Some.at + 1)) c.self.inside.bytes.items)
