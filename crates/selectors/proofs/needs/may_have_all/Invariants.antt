use Rattle.std.proofs.Common.{drop}
use Rattle.selectors.specs.Needs.{LacksOne}
use Rattle.selectors.proofs.needs.may_have_all.Given as goal

abbrev pub invariant-loop-key : goal.invariant-loop-key
invariant-loop-key l = LacksOne (drop l.key-index l.keys) l.scopes → LacksOne l.keys l.scopes
