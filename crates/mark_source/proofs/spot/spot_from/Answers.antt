use Rattle.bracket_marks.specs.MarkedLine.{marks_in}
use Rattle.std.proofs.Common.{◌≡◌, ◌<◌, ◌≤◌, List, length, nat_lt, true, false, sym, ap, ◌∙◌, subst, arith}
use Rattle.std.specs.List.Sorted.{IsNonDecreasingBy, IsPartitionPoint}
use Rattle.pairing_defs.specs.declared.LineMark.{LineMark}
use Rattle.mark_source.specs.Source.{marks_from}
use Rattle.mark_source.specs.Reading.{later, marks_at}
use Rattle.mark_source.proofs.Spots.{marks_got}
use Rattle.mark_source.proofs.Places.{line_at, line_is_marked, rising, from_place, from_behind}
use Rattle.mark_source.proofs.spot.spot_from.Goals as goal

pub returns-then-place-len-clause-stands : goal.returns-then-place-len-clause-stands
returns-then-place-len-clause-stands c =
    subst (λ n. later n c.args.lines.now ≡ marks_from c.args.place (marks_in c.args.lines.now))
    (sym c.len-then-place-len.ensures.count)
    (from_behind c.args.place c.args.lines.now (omega (arith, c.if-place-len.true, c.len.ensures.count)))

pub count_before-index-requires : goal.count_before-index-requires
count_before-index-requires c =
    let lines = c.args.lines.now in
    let n = c.args.place.line in
    let there : n < length lines = omega (arith, c.if-place-len.false, c.len.ensures.count) in
    let marks = c.marks-marks.ensures ∙ marks_got lines n c.get.result.now there c.get.ensures in
    subst (IsNonDecreasingBy (λ (m : LineMark). m.from)) (sym marks)
    (rising 0 (line_at lines n).length (marks_at lines n) (line_is_marked lines n c.requires there))

pub settled-requires-clause-within : goal.settled-requires-clause-within
settled-requires-clause-within c =
    let there : c.args.place.line < length c.args.lines.now = omega (arith, c.if-place-len.false, c.len.ensures.count) in
    let marks = c.marks-marks.ensures ∙ marks_got c.args.lines.now c.args.place.line c.get.result.now there c.get.ensures in
    omega (arith, ap length marks, c.count_before-index.ensures.bound)

pub returns-clause-stands : goal.returns-clause-stands
returns-clause-stands c =
    let lines = c.args.lines.now in
    let place = c.args.place in
    let k = c.count_before-index.result in
    let there : place.line < length lines = omega (arith, c.if-place-len.false, c.len.ensures.count) in
    let marks = c.marks-marks.ensures ∙ marks_got lines place.line c.get.result.now there c.get.ensures in
    let within : k ≤ length (marks_at lines place.line) = omega (arith, ap length marks, c.count_before-index.ensures.bound) in
    c.settled.ensures.same
    ∙ from_place place lines k c.requires there within
    (subst (λ (ms : List LineMark). IsPartitionPoint (λ (m : LineMark). nat_lt m.from place.col ≡ true)
    (λ m. nat_lt m.from place.col ≡ false) ms k) marks c.count_before-index.ensures.point)
