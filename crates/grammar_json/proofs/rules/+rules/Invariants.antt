use Rattle.std.proofs.Common.{◌≡◌, ◌≤◌, ◌+◌, ◌*◌, drop}
use Rattle.serde_json.specs.Data.{depth, items_depth, members_depth}
use Rattle.serde_json.specs.View.{view, items_view, members_view}
use Rattle.grammar_defs.specs.FileRules.{FileList}
use Rattle.grammar_defs.specs.RuleShape.{entries_of, captures_wide}
use Rattle.grammar_defs.specs.RuleFaults.{entries_faults, wide_faults}
use Rattle.grammar_json.specs.FileViews.{entries_then, captures_then}
use Rattle.grammar_json.proofs.rules.+rules.Given as goal

-- eight times the depth, and a rank among those that pass the value on
abbrev pub decreases-patterns_at : goal.decreases-patterns_at
decreases-patterns_at l = 8 * depth (view l.value.now)

abbrev pub decreases-captures_at : goal.decreases-captures_at
decreases-captures_at l = 8 * depth (view l.value.now)

abbrev pub decreases-capture_lists : goal.decreases-capture_lists
decreases-capture_lists l = 8 * depth (view l.value.now) + 1

abbrev pub decreases-read_members : goal.decreases-read_members
decreases-read_members l = 8 * depth (view l.value.now) + 2

abbrev pub decreases-read_rule : goal.decreases-read_rule
decreases-read_rule l = 8 * depth (view l.value.now) + 3

abbrev pub decreases-read_entry : goal.decreases-read_entry
decreases-read_entry l = 8 * depth (view l.value.now) + 4

abbrev pub decreases-read_entries : goal.decreases-read_entries
decreases-read_entries l = 8 * items_depth (items_view l.items.now) + 5

abbrev pub decreases-read_list : goal.decreases-read_list
decreases-read_list l = 8 * depth (view l.value.now) + 7

abbrev pub decreases-read_capture : goal.decreases-read_capture
decreases-read_capture l = 8 * depth (view l.value.now) + 3

abbrev pub decreases-push_member : goal.decreases-push_member
decreases-push_member l = 8 * depth (view l.member.now) + 4

abbrev pub decreases-push_captures : goal.decreases-push_captures
decreases-push_captures l = 8 * members_depth (members_view l.members.now.entries) + 5

abbrev pub decreases-read_all_captures : goal.decreases-read_all_captures
decreases-read_all_captures l = 8 * members_depth (members_view l.members.now.entries) + 6

abbrev pub decreases-read_captures : goal.decreases-read_captures
decreases-read_captures l = 8 * depth (view l.value.now) + 7

-- what is left of the members gives what is left of the captures, and of the faults
abbrev pub invariant-push_captures-loop-key : goal.invariant-push_captures-loop-key
invariant-push_captures-loop-key l = record {
  deep : members_depth (members_view l.key-iterator) ≤ members_depth (members_view l.members.entries);
  faults : wide_faults l.width (members_view l.members.entries) ≡ wide_faults l.width (members_view l.key-iterator);
  captures : (others : FileList) → captures_then l.captures.items
      (captures_wide l.width (members_view l.key-iterator) others)
      ≡ captures_then l.initial.captures.items (captures_wide l.width (members_view l.members.entries) others);
}

abbrev pub invariant-read_entries-loop-index : goal.invariant-read_entries-loop-index
invariant-read_entries-loop-index l = record {
  deep : items_depth (items_view (drop l.index l.items)) ≤ items_depth (items_view l.items);
  faults : entries_faults 0 (items_view l.items) ≡ entries_faults l.index (items_view (drop l.index l.items));
  entries : entries_then l.entries.items (entries_of (items_view (drop l.index l.items)))
      ≡ entries_of (items_view l.items);
}
