use Rattle.std.proofs.Common.{◌≤◌, ap, sym, ◌∙◌, arith}
use Rattle.char_sets.specs.Case.{is_from_to}
use Rattle.char_sets.specs.Ranges.{bit}
use Rattle.char_sets.proofs.Words.{part-bits}
use Rattle.char_sets.proofs.bits.bits_of_range.Goals as goal

pub returns : goal.returns
returns c k lt =
    let from : c.args.first ≤ c.args.range.last = omega arith in
    c.ones.ensures k lt
    ∙ ap bit (rw (c.max.ensures, c.min.ensures) (part-bits c.args.range c.args.first k lt from))
