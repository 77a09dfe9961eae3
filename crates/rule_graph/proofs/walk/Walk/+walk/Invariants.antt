use Rattle.std.proofs.Common.{◌≡◌, drop}
use Rattle.grammar_json.specs.FileViews.{entry_list, capture_list}
use Rattle.rule_graph.specs.Walks.{after}
use Rattle.rule_graph.proofs.walk.Walk.+walk.Given as goal

-- behind what is left, the walk stands where it does behind all

abbrev pub invariant-push_entries-loop-entry : goal.invariant-push_entries-loop-entry
invariant-push_entries-loop-entry l =
    after l.targets l.self (entry_list (drop l.entry-index l.entry-items))
    ≡ after l.targets l.initial.self (entry_list l.entry-items)

abbrev pub invariant-push_all_captures-loop-capture : goal.invariant-push_all_captures-loop-capture
invariant-push_all_captures-loop-capture l =
    after l.targets l.self (capture_list (drop l.capture-index l.capture-items))
    ≡ after l.targets l.initial.self (capture_list l.capture-items)
