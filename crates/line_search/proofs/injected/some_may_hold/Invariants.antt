use Rattle.std.proofs.Common.{drop, map}
use Rattle.line_search.specs.Prepared.{NoneHolds}
use Rattle.line_search.specs.Asking.{prepared_of}
use Rattle.line_search.proofs.injected.some_may_hold.Given as goal

-- where none holds of those that are left, none holds at all
abbrev pub invariant-loop-one : goal.invariant-loop-one
invariant-loop-one l = NoneHolds l.scopes (map prepared_of (drop l.one-index l.ready)) → NoneHolds l.scopes (map prepared_of l.ready)
