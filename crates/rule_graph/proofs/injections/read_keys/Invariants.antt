use Rattle.std.proofs.Common.{◌≡◌, ◌+◌, ◌++◌, drop, map}
use Rattle.grammar_defs.specs.GrammarShape.{rules_of_named}
use Rattle.grammar_json.specs.NamedViews.{named_view}
use Rattle.graph_defs.specs.ListedInjections.{listed_from, unread_keys}
use Rattle.rule_graph.specs.Keyed.{listed_keys}
use Rattle.rule_graph.proofs.injections.read_keys.Given as goal

-- what is read, and what is left to read, are all
abbrev pub invariant-loop-named : goal.invariant-loop-named
invariant-loop-named l = record {
  next : l.next + rules_of_named (map named_view (drop l.named-index l.named-items))
      ≡ l.first + rules_of_named (map named_view l.named-items);
  read : listed_keys l.keys.read ++ listed_from l.next (map named_view (drop l.named-index l.named-items))
      ≡ listed_from l.first (map named_view l.named-items);
  unread : l.keys.unread + unread_keys (map named_view (drop l.named-index l.named-items))
      ≡ unread_keys (map named_view l.named-items);
}
