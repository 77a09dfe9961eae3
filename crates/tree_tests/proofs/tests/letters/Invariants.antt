use Rattle.std.proofs.Common.{◌≡◌, replicate}
use Rattle.tree_tests.specs.Columns.{letter}
use Rattle.tree_tests.proofs.tests.letters.Given as goal

abbrev pub invariant-loop : goal.invariant-loop
invariant-loop l = l.nodes.items ≡ replicate l.counter letter
