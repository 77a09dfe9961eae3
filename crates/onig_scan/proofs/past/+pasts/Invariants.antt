use Rattle.std.proofs.Common.{◌+◌, ◌*◌, take}
use Rattle.onig_scan.specs.Pasts.{ArePasts}
use Rattle.onig_scan.proofs.past.+pasts.Given as goal

abbrev pub decreases-past_of : goal.decreases-past_of
decreases-past_of l = 3 * l.depth

abbrev pub decreases-past_of_node : goal.decreases-past_of_node
decreases-past_of_node l = 3 * l.depth + 2

abbrev pub decreases-past_of_ids : goal.decreases-past_of_ids
decreases-past_of_ids l = 3 * l.depth + 1

abbrev pub invariant-past_of_ids-loop-id : goal.invariant-past_of_ids-loop-id
invariant-past_of_ids-loop-id l = ArePasts l.inside l.pattern.lists (take l.id-index l.ids) l.all l.all.cost
