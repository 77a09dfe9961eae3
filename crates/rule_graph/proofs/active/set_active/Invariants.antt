use Rattle.std.proofs.Common.{◌≡◌, ◌≤◌, length, map}
use Rattle.rule_table.specs.Views.{rule_of}
use Rattle.rule_graph.specs.Listing.{numbers}
use Rattle.rule_graph.specs.Opening.{with_lists}
use Rattle.rule_graph.proofs.active.set_active.Given as goal

abbrev pub invariant-loop-list : goal.invariant-loop-list
invariant-loop-list l =
    (with_lists (map rule_of l.rules.items) (map numbers l.lists.items)
    ≡ with_lists (map rule_of l.fn.rules.items) (map numbers l.fn.lists.items))
    × (length l.lists.items ≤ length l.rules.items)

abbrev pub decreases-loop-list : goal.decreases-loop-list
decreases-loop-list l = length l.lists.items
