use Rattle.std.proofs.Common.{arith, ◌<◌, ◌^◌}
use Rattle.onig_class.proofs.HexLemmas.{few_digits, next_digit}
use Rattle.onig_class.proofs.hex.hex_value.Goals as goal

-- src/hex.rt:27:17
pub overflow_mul-value : goal.overflow_mul-value
overflow_mul-value c = let h : c.loop-c.value < 16 ^ c.loop-c.c-index =
    c.loop-c.invariant.1 in omega (arith, few_digits c.loop-c.c-index (omega arith))

-- src/hex.rt:27:17
pub overflow_add-value : goal.overflow_add-value
overflow_add-value c =
    let h : c.loop-c.value < 16 ^ c.loop-c.c-index = c.loop-c.invariant.1 in
    let d = next_digit c.args.digits.now c.loop-c.c-index c.c-item.result c.to_digit.result c.requires.all
    c.loop-c-test.true c.c-item.is c.to_digit.ensures.value in
    omega (arith, few_digits c.loop-c.c-index (omega arith), d.small, c.unwrap_or.ensures)
