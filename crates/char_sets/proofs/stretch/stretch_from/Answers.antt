use Rattle.std.proofs.Common.{◌<◌, length, arith}
use Rattle.char_sets.proofs.Rising.{rises-drop, in_set-gap}
use Rattle.char_sets.proofs.stretch.stretch_from.Goals as goal

pub overflow_add-result : goal.overflow_add-result
overflow_add-result c =
    let place : c.args.place < length c.args.ranges.now =
    omega (arith, c.requires.reached.within, c.if-place-ranges.false) in
    let range = rises-drop 0 c.args.ranges.now c.args.place (record { first = 0; last = 0 }) c.requires.rising place in
    omega (arith, range.within)

pub returns-then-code-range-clause-all : goal.returns-then-code-range-clause-all
returns-then-code-range-clause-all c d from gap =
    let place : c.args.place < length c.args.ranges.now =
    omega (arith, c.requires.reached.within, c.if-place-ranges.false) in
    in_set-gap c.args.ranges.now c.args.place d (record { first = 0; last = 0 }) c.requires.rising place
    (c.requires.reached.before d from) gap

pub returns-then-code-range-clause-end : goal.returns-then-code-range-clause-end
returns-then-code-range-clause-end c =
    let place : c.args.place < length c.args.ranges.now =
    omega (arith, c.requires.reached.within, c.if-place-ranges.false) in
    let range = rises-drop 0 c.args.ranges.now c.args.place (record { first = 0; last = 0 }) c.requires.rising place in
    omega (arith, range.within, range.ordered)

pub returns-else-code-range-clause-end : goal.returns-else-code-range-clause-end
returns-else-code-range-clause-end c =
    let place : c.args.place < length c.args.ranges.now =
    omega (arith, c.requires.reached.within, c.if-place-ranges.false) in
    let range = rises-drop 0 c.args.ranges.now c.args.place (record { first = 0; last = 0 }) c.requires.rising place in
    omega (arith, range.within)

pub returns-then-code-range-clause-near : goal.returns-then-code-range-clause-near
returns-then-code-range-clause-near c place =
    let range = rises-drop 0 c.args.ranges.now c.args.place (record { first = 0; last = 0 }) c.requires.rising place in
    omega (arith, range.ordered)
