use Rattle.std.proofs.Common.{◌≡◌, suc, ◌-◌, ◌+◌, ◌++◌, flat_map, []}
use Rattle.std.specs.List.{range_with_len}
use Rattle.text_defs.specs.Text.{lines_of}
use Rattle.tree_defs.specs.Rows.{start}
use Rattle.tree_queries.specs.Known.{known}
use Rattle.tree_queries.specs.Answers.{guides_known}
use Rattle.tree_queries.proofs.guide_lines.guides_of.Given as goal

-- those so far and those of the lines that are left are all
abbrev pub invariant-loop-line : goal.invariant-loop-line
invariant-loop-line l =
    l.found ++ flat_map (guides_known l.tab (lines_of l.text) (known l.root start [])) (range_with_len l.line ((l.to + 1) - l.line))
    ≡ flat_map (guides_known l.tab (lines_of l.text) (known l.root start [])) (range_with_len l.from (suc l.to - l.from))
