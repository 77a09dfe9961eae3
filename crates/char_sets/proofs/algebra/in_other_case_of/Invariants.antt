use Rattle.std.proofs.Common.{◌≤◌}
use Rattle.char_sets.specs.Case.{is_missing}
use Rattle.char_sets.proofs.Letters.{Letters}
use Rattle.char_sets.proofs.algebra.in_other_case_of.Given as goal

abbrev pub invariant-loop-code : goal.invariant-loop-code
invariant-loop-code l = Letters l.out.items l.code (is_missing l.set)
