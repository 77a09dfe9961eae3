use Rattle.std.proofs.Common.{sym, ◌∙◌}
use Rattle.bracket_marks.specs.MarkedLine.{marks_in}
use Rattle.mark_source.proofs.Ahead.{next_ahead}
use Rattle.mark_source.proofs.Places.{all_in_order}
use Rattle.mark_source.proofs.Spots.{taken}
use Rattle.mark_source.proofs.reader.MarkReaderMarkSource.next.Goals as goal

pub invariant_of-self : goal.invariant_of-self
invariant_of-self g c =
    let reader = c.self.inside in
    let lines = reader.lines.now in
    let kept = c.self.invariant in
    let mark = c.in_ok-mark.mark in
    let is_first = c.in_ok-mark.ensures in
    let split = taken lines reader.spot mark (sym is_first.mark) in
    record {
      marked = kept.marked;
      spot = c.behind-self-inside.ensures.is;
      stands = c.behind-self-inside.ensures.same
          ∙ sym (next_ahead reader.place (record { line = 0; col = 0 }) (marks_in lines) _ mark
          (all_in_order lines kept.marked) (sym kept.stands ∙ split));
    }
