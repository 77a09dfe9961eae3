use Rattle.std.proofs.Common.{◌≡◌, ◌++◌, map, drop}
use Rattle.std.specs.List.{filter}
use Rattle.injection_defs.specs.Injections.{has_rank}
use Rattle.rule_table.specs.Views.{listed_of}
use Rattle.rule_graph.specs.Keyed.{listed_keys}
use Rattle.rule_graph.proofs.injections.push_keys.Given as goal

abbrev pub invariant-loop-key : goal.invariant-loop-key
invariant-loop-key l =
    map listed_of l.all ++ filter (has_rank l.of) (listed_keys (drop l.key-index l.keys))
    ≡ map listed_of l.initial.all ++ filter (has_rank l.of) (listed_keys l.keys)
