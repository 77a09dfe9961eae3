use Rattle.std.proofs.Common.{◌≡◌, take}
use Rattle.answer_defs.specs.Answers.{brackets_in}
use Rattle.pair_queries.proofs.brackets.Given as goal

-- those of the rows so far are found
abbrev pub invariant-loop-row : goal.invariant-loop-row
invariant-loop-row l = l.found ≡ brackets_in l.from l.to (take l.row-index l.rows)
