use Rattle.std.proofs.Common.{◌+◌, ◌*◌, length}
use Rattle.reuse_parser.specs.Parsing.{work}
use Rattle.reuse_parser.proofs.Loops.{Parsed}
use Rattle.reuse_parser.proofs.list.+parsing.Given as goal

-- three times the marks that are left, and a rank
abbrev pub decreases-parse_list : goal.decreases-parse_list
decreases-parse_list l = 3 * length l.from.marks.now + 2

abbrev pub decreases-parse_child : goal.decreases-parse_child
decreases-parse_child l = 3 * length l.place.marks.now + 1

abbrev pub decreases-parse_pair : goal.decreases-parse_pair
decreases-parse_pair l = 3 * length l.rest.now + 3

abbrev pub invariant-parse_list-loop-nodes : goal.invariant-parse_list-loop-nodes
invariant-parse_list-loop-nodes l = Parsed l.around l.fn.from.at l.fn.from.marks.now l.nodes.items l.place.at
    l.place.marks.now

abbrev pub decreases-parse_list-loop-nodes : goal.decreases-parse_list-loop-nodes
decreases-parse_list-loop-nodes l = work l.around.end l.place.at l.place.marks.now
