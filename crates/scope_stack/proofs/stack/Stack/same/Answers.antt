use Rattle.std.proofs.Common.{◌≡◌, sym, ◌∙◌, arith, rules}
use Rattle.scope_stack.proofs.Bare.{number_same, depth_same}
use Rattle.scope_stack.proofs.stack.Stack.same.Goals as goal
use Rattle.scope_stack.proofs.stack.Stack.same.Goals.{then-number-via-then-number}
use Rattle.scope_stack.proofs.stack.Stack.same.Goals.{then-number-via-else-number+then-depth}

pub returns-then-number : goal.returns-then-number
returns-then-number c = (
  search rules,
  λ same.
      let number : c.number.result ≡ c.number-2.result =
      c.number.ensures ∙ (number_same c.args.self.now c.args.other.now same ∙ sym c.number-2.ensures) in
      let count = depth_same c.args.self.now c.args.other.now same in
      elim c.then-number.branch [
        | then-number-via-then-number w ↦ absurd (omega (arith, number))
        | then-number-via-else-number+then-depth w ↦
            absurd (omega (arith, count, w.depth.ensures.count, w.depth-else-number.ensures.count))
      ],
)
