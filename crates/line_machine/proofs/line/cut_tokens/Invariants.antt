use Rattle.std.proofs.Common.{◌≡◌, ◌++◌, drop, map}
use Rattle.line_machine.specs.Cut.{cut_at}
use Rattle.line_machine.proofs.line.cut_tokens.Given as goal

abbrev pub invariant-loop-token : goal.invariant-loop-token
invariant-loop-token l =
    l.all ++ map (cut_at l.chars) (drop l.token-index l.tokens) ≡ map (cut_at l.chars) l.tokens
