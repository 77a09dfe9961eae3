use Rattle.std.proofs.Common.{◌≡◌, ◌+◌, ◌≤◌, map, length, drop}
use Rattle.grammar_defs.specs.GrammarShape.{rules_of_named}
use Rattle.grammar_json.specs.NamedViews.{named_view}
use Rattle.rule_graph.specs.Keys.{AreNumbers}
use Rattle.rule_graph.proofs.includes.numbers_of.Given as goal

-- the rules from `left` on have their numbers
abbrev pub invariant-loop-left : goal.invariant-loop-left
invariant-loop-left l = record {
  inside : l.left ≤ length l.rules;
  count : l.next + rules_of_named (map named_view (drop l.left l.rules))
      ≡ l.fn.first + rules_of_named (map named_view l.rules);
  numbers : AreNumbers l.numbers l.next (map named_view (drop l.left l.rules));
}

abbrev pub decreases-loop-left : goal.decreases-loop-left
decreases-loop-left l = l.left
