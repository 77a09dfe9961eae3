use Rattle.std.proofs.Common.{◌+◌, ◌*◌, take}
use Rattle.onig_scan.specs.Fronts.{AreFronts}
use Rattle.onig_scan.proofs.front_of.+fronts.Given as goal

abbrev pub decreases-front_of : goal.decreases-front_of
decreases-front_of l = 4 * l.depth

abbrev pub decreases-front_of_node : goal.decreases-front_of_node
decreases-front_of_node l = 4 * l.depth + 3

abbrev pub decreases-front_of_ids : goal.decreases-front_of_ids
decreases-front_of_ids l = 4 * l.depth + 1

abbrev pub decreases-front_of_own : goal.decreases-front_of_own
decreases-front_of_own l = 4 * l.depth + 1

abbrev pub decreases-front_of_ahead : goal.decreases-front_of_ahead
decreases-front_of_ahead l = 4 * l.depth + 2

abbrev pub decreases-front_of_both : goal.decreases-front_of_both
decreases-front_of_both l = 4 * l.depth + 1

abbrev pub decreases-front_of_repeat : goal.decreases-front_of_repeat
decreases-front_of_repeat l = 4 * l.depth + 1

abbrev pub invariant-front_of_ids-loop-id : goal.invariant-front_of_ids-loop-id
invariant-front_of_ids-loop-id l = AreFronts l.pattern.lists (take l.id-index l.ids) l.after l.all l.all.cost
