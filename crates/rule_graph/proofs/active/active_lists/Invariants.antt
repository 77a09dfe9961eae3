use Rattle.rule_graph.proofs.ListingLemmas.{IsListing}
use Rattle.rule_graph.proofs.active.active_lists.Given as goal

abbrev pub invariant-loop-rule : goal.invariant-loop-rule
invariant-loop-rule l = IsListing l.rules l.stamps.items l.stamp l.sum l.lists.items l.rule-index
