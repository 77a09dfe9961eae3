use Rattle.std.proofs.Common.{◌≡◌, ◌++◌, map}
use Rattle.std.specs.List.{filter}
use Rattle.injection_defs.specs.Injections.{has_rank}
use Rattle.rule_table.specs.Views.{listed_of}
use Rattle.rule_graph.specs.Keyed.{entries_of_key}
use Rattle.rule_graph.proofs.InjectionLemmas.{left}
use Rattle.rule_graph.proofs.injections.push_key.Given as goal

abbrev pub invariant-loop-entry : goal.invariant-loop-entry
invariant-loop-entry l =
    map listed_of l.all ++ filter (has_rank l.of) (left l.key l.entry)
    ≡ map listed_of l.initial.all ++ filter (has_rank l.of) (entries_of_key l.key)
