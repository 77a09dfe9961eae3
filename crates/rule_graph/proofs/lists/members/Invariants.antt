use Rattle.std.proofs.Common.{◌≡◌, ◌+◌, ◌++◌, drop}
use Rattle.grammar_defs.specs.GrammarShape.{rules_of_list}
use Rattle.grammar_json.specs.FileViews.{entry_list}
use Rattle.graph_defs.specs.ListedRules.{members}
use Rattle.rule_graph.specs.Listing.{numbers}
use Rattle.rule_graph.proofs.lists.members.Given as goal

-- what is found, and what is left to find, are all
abbrev pub invariant-loop-entry : goal.invariant-loop-entry
invariant-loop-entry l = record {
  next : l.next + rules_of_list (entry_list (drop l.entry-index l.entry-items))
      ≡ l.first + rules_of_list (entry_list l.entry-items);
  ids : numbers l.ids ++ members l.targets l.next (entry_list (drop l.entry-index l.entry-items))
      ≡ members l.targets l.first (entry_list l.entry-items);
}
