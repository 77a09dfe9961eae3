use Rattle.std.proofs.Common.{◌≡◌, ◌++◌, map, filter, take}
use Rattle.text_defs.specs.Text.{lines_of}
use Rattle.answer_defs.specs.PairAnswers.{has_guide, guide_row}
use Rattle.pair_queries.proofs.ranges.add_guides.Given as goal

-- those of the rows so far are added
abbrev pub invariant-loop-row : goal.invariant-loop-row
invariant-loop-row l =
    l.found ≡ l.initial.found ++ map (guide_row l.tab (lines_of l.text) l.line)
    (filter (has_guide l.line) (take l.row-index l.rows))
