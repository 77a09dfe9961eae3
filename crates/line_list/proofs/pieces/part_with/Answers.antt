use Rattle.std.proofs.Common.{◌+◌, ◌-◌, ◌/◌, arith}
use Rattle.line_list.proofs.Laid.{start_at}
use Rattle.line_list.proofs.pieces.part_with.Goals as goal

pub loop-high-preserved-then-parts-middle : goal.loop-high-preserved-then-parts-middle
loop-high-preserved-then-parts-middle g c =
    let starts = start_at 0 c.args.parts.now (c.loop-high.low + (c.loop-high.high - c.loop-high.low) / 2)
    c.index-parts-middle.result c.requires.laid (omega arith) in
    record { some = omega arith; there = omega arith; begins = omega (arith, starts); ends = omega arith }

pub loop-high-preserved : goal.loop-high-preserved
loop-high-preserved g c =
    let starts = start_at 0 c.args.parts.now (c.loop-high.low + (c.loop-high.high - c.loop-high.low) / 2)
    c.index-parts-middle.result c.requires.laid (omega arith) in
    record { some = omega arith; there = omega arith; begins = omega arith; ends = omega (arith, starts) }
