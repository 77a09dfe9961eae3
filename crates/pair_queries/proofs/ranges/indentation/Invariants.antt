use Rattle.std.proofs.Common.{◌≡◌, ◌≤◌, ◌*◌, drop}
use Rattle.answer_defs.specs.PairAnswers.{indentation, indentation_from}
use Rattle.pair_queries.proofs.ranges.indentation.Given as goal

abbrev pub invariant-loop-c : goal.invariant-loop-c
invariant-loop-c l = (indentation_from l.tab l.column (drop l.c-index l.line) ≡ indentation l.tab l.line)
    × (l.column ≤ 32 * l.c-index)
