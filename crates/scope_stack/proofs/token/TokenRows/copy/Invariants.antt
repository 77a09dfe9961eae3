use Rattle.std.proofs.Common.{◌≡◌, take}
use Rattle.scope_stack.proofs.token.TokenRows.copy.Given as goal

abbrev pub invariant-loop-token : goal.invariant-loop-token
invariant-loop-token l = l.rows ≡ take l.token-index l.token-items
