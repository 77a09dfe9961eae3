use Rattle.std.proofs.Common.{◌≡◌, ◌+◌, ◌++◌, drop, map}
use Rattle.grammar_defs.specs.GrammarShape.{rules_of_list}
use Rattle.grammar_json.specs.FileViews.{capture_list}
use Rattle.graph_defs.specs.ListedRules.{entries}
use Rattle.rule_table.specs.Views.{entry_of}
use Rattle.rule_graph.proofs.lists.all_entries.Given as goal

-- what is found, and what is left to find, are all
abbrev pub invariant-loop-capture : goal.invariant-loop-capture
invariant-loop-capture l = record {
  next : l.next + rules_of_list (capture_list (drop l.capture-index l.capture-items))
      ≡ l.first + rules_of_list (capture_list l.capture-items);
  list : map entry_of l.list ++ entries l.next (capture_list (drop l.capture-index l.capture-items))
      ≡ entries l.first (capture_list l.capture-items);
}
