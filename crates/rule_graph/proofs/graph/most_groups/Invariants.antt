use Rattle.std.proofs.Common.{◌≡◌, drop, map, max}
use Rattle.rule_table.specs.Views.{rule_of}
use Rattle.graph_defs.specs.GraphMeaning.{most_groups}
use Rattle.rule_graph.proofs.graph.most_groups.Given as goal

abbrev pub invariant-loop-rule : goal.invariant-loop-rule
invariant-loop-rule l =
    max l.most (most_groups (map rule_of (drop l.rule-index l.rules))) ≡ most_groups (map rule_of l.rules)
