use Rattle.std.proofs.Common.{◌≡◌, ◌-◌, ◌+◌, ◌++◌}
use Rattle.std.specs.List.{flat_map, range_with_len}
use Rattle.text_defs.specs.Text.{lines_of}
use Rattle.answer_defs.specs.PairAnswers.{guides_of_line, guides_in}
use Rattle.pair_queries.proofs.ranges.guides.Given as goal

-- those so far and those of the lines that are left are all
abbrev pub invariant-loop-line : goal.invariant-loop-line
invariant-loop-line l =
    l.found ++ flat_map (guides_of_line l.tab (lines_of l.text) l.rows) (range_with_len l.line ((l.to + 1) - l.line))
    ≡ guides_in l.tab (lines_of l.text) l.rows l.from l.to
