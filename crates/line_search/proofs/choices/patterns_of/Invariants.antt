use Rattle.std.proofs.Common.{◌≡◌, map, take}
use Rattle.std.specs.Rc.{rc_value}
use Rattle.line_search.specs.Choices.{tree_of_owned}
use Rattle.line_search.proofs.choices.patterns_of.Given as goal

abbrev pub invariant-loop-one : goal.invariant-loop-one
invariant-loop-one l = map rc_value l.patterns.items ≡ map tree_of_owned (take l.one-index l.owned)
