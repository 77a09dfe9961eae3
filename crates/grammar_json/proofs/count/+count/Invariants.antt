use Rattle.std.proofs.Common.{◌≡◌, ◌+◌, ◌-◌, ◌^◌, ◌≤◌, drop}
use Rattle.std.specs.Prelude.{min}
use Rattle.grammar_defs.specs.GrammarShape.{rules_of_list}
use Rattle.grammar_json.specs.FileViews.{entry_list, capture_list}
use Rattle.grammar_json.proofs.count.+count.Given as goal

-- the count so far and the rules that are left are all rules, as far as 64 bits go
abbrev pub invariant-entries_count-loop-entry : goal.invariant-entries_count-loop-entry
invariant-entries_count-loop-entry l = record {
  all : min (l.count + rules_of_list (entry_list (drop l.entry-index l.entry-items))) (2 ^ 64 - 1)
      ≡ min (rules_of_list (entry_list l.entry-items)) (2 ^ 64 - 1);
  fits : l.count ≤ 2 ^ 64 - 1;
}

abbrev pub invariant-all_captures_count-loop-capture : goal.invariant-all_captures_count-loop-capture
invariant-all_captures_count-loop-capture l = record {
  all : min (l.count + rules_of_list (capture_list (drop l.capture-index l.capture-items))) (2 ^ 64 - 1)
      ≡ min (rules_of_list (capture_list l.capture-items)) (2 ^ 64 - 1);
  fits : l.count ≤ 2 ^ 64 - 1;
}
