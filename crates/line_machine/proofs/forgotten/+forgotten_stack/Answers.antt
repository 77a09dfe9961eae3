use Rattle.std.proofs.Common.{sym, ap, ◌∙◌, arith}
use Rattle.std.specs.Option.{option_copied}
use Rattle.line_machine.proofs.ForgottenStacks.{below-less}
use Rattle.line_machine.proofs.forgotten.+forgotten_stack.Goals as goal

pub push-requires : goal.push-requires
push-requires t c =
    let less = below-less c.args.stack.now c.in-Some.below.now c.in_ok-below-in-Some.below
    (sym c.below.ensures ∙ ap option_copied c.in-Some.is) c.in_ok-below-in-Some.ensures in
    omega (arith, less, c.depth-frames.ensures.few, c.depth-frames.ensures.count)
