use Rattle.std.proofs.Common.{◌≡◌, false, sym, ap, ◌∙◌, subst}
use Rattle.bracket_marks.specs.MarkedLine.{marks_in}
use Rattle.mark_source.specs.Source.{Source, is_before, first}
use Rattle.mark_source.specs.Reading.{is_passed}
use Rattle.mark_source.proofs.Ahead.{same_ahead}
use Rattle.mark_source.proofs.Places.{all_in_order}
use Rattle.mark_source.proofs.reader.MarkReaderMarkSource.seek.Goals as goal

pub invariant_of-self-else-is_passed : goal.invariant_of-self-else-is_passed
invariant_of-self-else-is_passed c =
    let reader = c.self.inside in
    let kept = c.self.invariant in
    let up : is_before c.args.to reader.place ≡ false =
    subst (λ (s : Source). is_before c.args.to s.place ≡ false) (sym c.self.view_is) c.requires in
    record {
      marked = kept.marked;
      spot = kept.spot;
      stands = kept.stands
          ∙ sym (same_ahead reader.place c.args.to (record { line = 0; col = 0 }) (marks_in reader.lines.now)
          (all_in_order reader.lines.now kept.marked) up
          (ap (λ ms. is_passed (first ms) c.args.to) (sym kept.stands)
          ∙ (ap (λ m. is_passed m c.args.to) (sym c.mark_at.ensures.mark)
          ∙ (sym c.is_passed.ensures ∙ c.if-is_passed.false))));
    }
