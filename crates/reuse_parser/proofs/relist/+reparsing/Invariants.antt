use Rattle.std.proofs.Common.{◌+◌, ◌*◌}
use Rattle.reuse_parser.specs.Parsing.{start_of}
use Rattle.reuse_parser.proofs.AheadOf.{left_to}
use Rattle.reuse_parser.proofs.Going.{Going}
use Rattle.reuse_parser.proofs.relist.+reparsing.Given as goal

-- five times the way that is left, and a rank
abbrev pub decreases-list_from : goal.decreases-list_from
decreases-list_from g l = 5 * left_to l.around.end l.from + 4

abbrev pub decreases-next_at : goal.decreases-next_at
decreases-next_at g l = 5 * left_to l.around.end l.place + 3

abbrev pub decreases-made_at : goal.decreases-made_at
decreases-made_at g l = 5 * left_to l.around.end l.place + 2

abbrev pub decreases-begun_by : goal.decreases-begun_by
decreases-begun_by g l = 5 * left_to l.around.end (start_of l.mark) + 1

abbrev pub decreases-pair_of : goal.decreases-pair_of
decreases-pair_of g l = 5 * left_to l.around.end (start_of l.mark)

abbrev pub invariant-list_from-loop-nodes : goal.invariant-list_from-loop-nodes
invariant-list_from-loop-nodes g l = Going l.around l.fn.from (g.S.MarkSource.told l.fn.source) l.fn.steps l.fn.old
    l.nodes.items l.place (g.S.MarkSource.told l.source) l.steps l.old

abbrev pub decreases-list_from-loop-nodes : goal.decreases-list_from-loop-nodes
decreases-list_from-loop-nodes g l = left_to l.around.end l.place
