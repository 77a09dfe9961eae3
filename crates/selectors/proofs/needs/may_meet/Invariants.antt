use Rattle.std.proofs.Common.{drop}
use Rattle.selectors.specs.Needs.{LacksOfEach}
use Rattle.selectors.proofs.needs.may_meet.Given as goal

abbrev pub invariant-loop-keys : goal.invariant-loop-keys
invariant-loop-keys l = LacksOfEach (drop l.keys-index l.needed) l.scopes → LacksOfEach l.needed l.scopes
