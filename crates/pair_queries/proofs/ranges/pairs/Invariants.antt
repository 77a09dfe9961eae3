use Rattle.std.proofs.Common.{◌≡◌, map, filter, take}
use Rattle.answer_defs.specs.PairAnswers.{reaches_lines, pair_row}
use Rattle.pair_queries.proofs.ranges.pairs.Given as goal

abbrev pub invariant-loop-row : goal.invariant-loop-row
invariant-loop-row l = l.found ≡ map (pair_row l.rows) (filter (reaches_lines l.from l.to) (take l.row-index l.rows))
