use Rattle.std.proofs.Common.{◌+◌, ◌*◌, take}
use Rattle.onig_scan.specs.Bounds.{AreBounds, AreArmBounds}
use Rattle.onig_scan.proofs.bound.+bounds.Given as goal

abbrev pub decreases-visits_of : goal.decreases-visits_of
decreases-visits_of l = 12 * l.depth

abbrev pub decreases-visits_of_node : goal.decreases-visits_of_node
decreases-visits_of_node l = 12 * l.depth + 11

abbrev pub decreases-visits_of_times : goal.decreases-visits_of_times
decreases-visits_of_times l = 12 * l.depth + l.times + 1

abbrev pub decreases-visits_of_ids : goal.decreases-visits_of_ids
decreases-visits_of_ids l = 12 * l.depth + 1

abbrev pub decreases-visits_of_arms : goal.decreases-visits_of_arms
decreases-visits_of_arms l = 12 * l.depth + 1

abbrev pub invariant-visits_of_ids-loop-id : goal.invariant-visits_of_ids-loop-id
invariant-visits_of_ids-loop-id l = AreBounds l.pattern.lists (take l.id-index l.ids) l.after l.all

abbrev pub invariant-visits_of_arms-loop-arm : goal.invariant-visits_of_arms-loop-arm
invariant-visits_of_arms-loop-arm l = AreArmBounds l.pattern.lists (take l.arm-index l.arms) l.all
