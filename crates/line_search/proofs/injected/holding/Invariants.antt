use Rattle.std.proofs.Common.{◌≡◌, ◌++◌, drop, map}
use Rattle.line_search.specs.Prepared.{holding}
use Rattle.line_search.specs.Asking.{prepared_of}
use Rattle.line_search.proofs.injected.holding.Given as goal

-- the numbers so far, and those of what is left, are all
abbrev pub invariant-loop-number : goal.invariant-loop-number
invariant-loop-number l =
    l.numbers ++ holding l.scopes l.number (map prepared_of (drop l.number l.ready))
    ≡ holding l.scopes 0 (map prepared_of l.ready)
