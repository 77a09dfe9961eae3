use Rattle.std.proofs.Common.{◌≡◌, ◌∙◌, sym, length, ◌<◌, arith}
use Rattle.std.specs.Prelude.{slice_index, bit_and}
use Rattle.std.proofs.lemmas.Bool.{eqb-true}
use Rattle.std.proofs.lemmas.Grind.{get_or_default_zero}
use Rattle.onig_scan.proofs.Idle.{idle_place}
use Rattle.onig_scan.proofs.scanner.Scanner.is_idle.Goals as goal

pub returns : goal.returns
returns c =
    λ zero flags.
    let small = c.rows_at-row.ensures.small in
    let inside : c.rows_at-row.result.0 < length c.self.inside.rows.items =
    omega (arith, small.0, c.self.invariant.size, c.if-self-ne1.false) in
    let inside' : c.rows_at-row.result.1 < length c.self.inside.rows.items =
    omega (arith, small.1, c.self.invariant.size, c.if-self-ne1.false) in
    let one : slice_index c.self.inside.rows.items c.rows_at-row.result.0 ≡ c.index.result.now =
    sym (get_or_default_zero c.self.inside.rows.items c.rows_at-row.result.0 c.index.result.now inside)
    ∙ sym c.index.ensures in
    let other : slice_index c.self.inside.rows.items c.rows_at-row.result.1 ≡ c.index-2.result.now =
    sym (get_or_default_zero c.self.inside.rows.items c.rows_at-row.result.1 c.index-2.result.now inside')
    ∙ sym c.index-2.ensures in
    let none : bit_and (slice_index c.self.inside.rows.items c.rows_at-row.result.0)
    (slice_index c.self.inside.rows.items c.rows_at-row.result.1) ≡ 0 =
    rw (one, other) (eqb-true (bit_and c.index.result.now c.index-2.result.now) 0 zero) in
    rw (← c.self.view_is)
    (idle_place c.self.inside.entries.items c.self.inside.words c.rows_at-row.result.0 c.rows_at-row.result.1 c.args.at
    c.self.inside.rows.items c.args.text.now flags c.args.budget small.0 small.1 c.self.invariant.size
    c.self.invariant.rows c.if-self-ne1.false c.self.invariant.all c.rows_at-row.ensures.scalars
    (sym c.rows_at-row.ensures.here) (sym c.rows_at-row.ensures.past) c.if-budget-lt-ROW_VISITS.false none)
