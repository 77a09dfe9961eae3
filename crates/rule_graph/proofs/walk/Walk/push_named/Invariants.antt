use Rattle.std.proofs.Common.{◌≡◌, drop, map}
use Rattle.grammar_json.specs.NamedViews.{named_view}
use Rattle.rule_graph.specs.Walks.{after_named}
use Rattle.rule_graph.proofs.walk.Walk.push_named.Given as goal

-- behind what is left, the walk stands where it does behind all
abbrev pub invariant-loop-named : goal.invariant-loop-named
invariant-loop-named l =
    after_named l.targets l.self (map named_view (drop l.named-index l.named-items))
    ≡ after_named l.targets l.initial.self (map named_view l.named-items)
