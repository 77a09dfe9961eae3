use Rattle.std.proofs.Common.{length}
use Rattle.rule_graph.proofs.ListingLemmas.{within_at}
use Rattle.rule_graph.proofs.active.active_lists.Goals as goal

pub active_list-requires-clause-list : goal.active_list-requires-clause-list
active_list-requires-clause-list c =
    within_at (length c.args.rules.now) c.args.rules.now c.loop-rule.rule-index c.rule-item.result
    c.loop-rule-test.true c.rule-item.is c.requires.within
