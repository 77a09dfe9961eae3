use Rattle.std.proofs.Common.{◌+◌, length, map}
use Rattle.rule_table.specs.Views.{rule_of}
use Rattle.graph_defs.specs.ActiveLists.{active_list}
use Rattle.rule_graph.specs.Listing.{numbers}
use Rattle.rule_graph.proofs.ActiveLemmas.{IsOpening, to_replace}
use Rattle.rule_graph.proofs.active.active_list.Given as goal

-- what is done, and what the rest gives, are the whole
abbrev pub invariant-loop-id : goal.invariant-loop-id
invariant-loop-id l =
    IsOpening l.rules l.stamps l.stamp l.active l.todo.items (active_list (map rule_of l.rules) (numbers l.list))

abbrev pub decreases-loop-id : goal.decreases-loop-id
decreases-loop-id l = length l.todo.items + to_replace l.rules l.stamps l.stamp
