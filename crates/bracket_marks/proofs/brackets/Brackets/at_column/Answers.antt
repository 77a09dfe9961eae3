use Rattle.std.proofs.Common.{◌<◌, ◌∙◌, ap, sym, length, arith}
use Rattle.std.specs.Option.{option_copied}
use Rattle.pairing_defs.specs.Marks.{counts_by, stands_at}
use Rattle.bracket_marks.proofs.LongestText.{longest_yes, longest_no}
use Rattle.bracket_marks.specs.Longest.{or_longer}
use Rattle.bracket_marks.proofs.brackets.Brackets.at_column.Goals as goal
use Rattle.bracket_marks.proofs.brackets.Brackets.at_column.Goals.{then-stands, else-stands}

pub loop-b-preserved : goal.loop-b-preserved
loop-b-preserved c =
    let items = c.deref-b-items.result.now in
    let stands = stands_at (counts_by c.args.types.now) c.args.line.now c.args.column in
    let b = c.b-item.result in
    let below : c.loop-b.b-index < length items = omega arith in
    elim c.if-stands.branch [
      | then-stands w ↦ ap option_copied w.longest-is ∙ w.longer-longest.ensures
          ∙ ap (λ o. or_longer o b) c.loop-b.invariant
          ∙ sym (longest_yes stands items c.loop-b.b-index b below
          c.b-item.is
          (sym w.if-stands.ensures))
      | else-stands w ↦ ap option_copied w.longest-is ∙ c.loop-b.invariant
          ∙ sym (longest_no stands items c.loop-b.b-index b below
          c.b-item.is
          (sym w.if-stands.ensures))
    ]
