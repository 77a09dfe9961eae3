use Rattle.char_sets.proofs.Places.{IsReached-next}
use Rattle.char_sets.proofs.stretch.place_behind.Goals as goal

pub returns-then-ranges-place : goal.returns-then-ranges-place
returns-then-ranges-place c =
    IsReached-next c.args.ranges.now c.args.place c.args.code (record { first = 0; last = 0 }) c.requires.rising
    c.if-place-ranges.true c.if-ranges-place.true (c.requires.near c.if-place-ranges.true)
