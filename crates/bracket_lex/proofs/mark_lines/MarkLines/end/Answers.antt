use Rattle.std.proofs.Common.{◌≡◌, ◌-◌, ◌∙◌, refl, sym, ap, get_or, length}
use Rattle.bracket_marks.specs.MarkedLine.{last_length}
use Rattle.bracket_lex.proofs.LineLists.{last_length_is}
use Rattle.bracket_lex.proofs.mark_lines.MarkLines.end.Goals as goal

pub returns : goal.returns
returns c =
    let lines = c.self.inside.lines in
    let count = c.len-last.ensures.count in
    let line = c.get.result.now in
    let here = rw count at c.get.ensures in
    let some = rw (← c.self.view_is) at c.requires in
    let last : last_length lines ≡ (get_or lines (length lines - 1) line).length = last_length_is lines line some in
    let col : c.length.result ≡ last_length lines =
    c.length.ensures ∙ ap (λ line. line.length) (c.get-2.ensures ∙ here) ∙ sym last in
    rw (← c.self.view_is, col, count) refl
