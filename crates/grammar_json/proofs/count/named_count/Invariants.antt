use Rattle.std.proofs.Common.{◌≡◌, ◌+◌, ◌-◌, ◌^◌, ◌≤◌, drop, map}
use Rattle.std.specs.Prelude.{min}
use Rattle.grammar_defs.specs.GrammarShape.{rules_of_named}
use Rattle.grammar_json.specs.NamedViews.{named_view}
use Rattle.grammar_json.proofs.count.named_count.Given as goal

-- the count so far and the rules that are left are all rules, as far as 64 bits go
abbrev pub invariant-loop-named : goal.invariant-loop-named
invariant-loop-named l = record {
  all : min (l.count + rules_of_named (map named_view (drop l.named-index l.named-items))) (2 ^ 64 - 1)
      ≡ min (rules_of_named (map named_view l.named-items)) (2 ^ 64 - 1);
  fits : l.count ≤ 2 ^ 64 - 1;
}
