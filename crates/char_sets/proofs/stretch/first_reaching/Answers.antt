use Rattle.std.proofs.Common.{◌+◌, ◌-◌, ◌/◌, arith}
use Rattle.char_sets.proofs.Rising.{in_set-beyond}
use Rattle.char_sets.proofs.stretch.first_reaching.Goals as goal

pub loop-low-preserved-then-ranges-mid : goal.loop-low-preserved-then-ranges-mid
loop-low-preserved-then-ranges-mid c =
    let mid = c.loop-low.low + (c.loop-low.high - c.loop-low.low) / 2 in
    let inv = c.loop-low.invariant in
    let within = inv.within in
    let passed = c.if-ranges-mid.true in
    record {
      ordered = omega arith;
      within = inv.within;
      before = λ d le.
          in_set-beyond c.args.ranges.now mid d (record { first = 0; last = 0 }) c.requires (omega arith) (omega arith);
      reaches = inv.reaches;
    }
