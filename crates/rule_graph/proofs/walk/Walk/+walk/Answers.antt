use Rattle.std.proofs.Common.{◌+◌, ap, ◌∙◌, sym, subst, drop, rules}
use Rattle.grammar_defs.specs.FileRules.{nothing, capture}
use Rattle.grammar_json.specs.FileViews.{rule_of, entry_list, entry_then, capture_list, capture_then, if_there}
use Rattle.std.proofs.Common.{◌≤◌}
use Rattle.grammar_defs.specs.FileRules.{weight}
use Rattle.grammar_json.specs.declared.file_rules.Captures.TheDeep.{deep-Entry, deep-Capture}
use Rattle.rule_graph.proofs.ListLemmas.{entry_weighs, capture_weighs}
use Rattle.rule_graph.specs.Walks.{after, IsSmall}
use Rattle.rule_graph.proofs.WalkLemmas.{after_parts, captures_next, entries_next, small_before, on_ok}
use Rattle.rule_graph.proofs.WalkLemmas.{small_2, small_3, small_4, small_5, room_of_capture}
use Rattle.rule_graph.proofs.walk.Walk.+walk.Goals as goal

pub push_rule-push_captures-requires-2 : goal.push_rule-push_captures-requires-2
push_rule-push_captures-requires-2 t c = (
  search rules,
  small_2 c.args.targets.now c.args.self.now c.push_listed.new.self c.push_captures.new.self
      (rule_of c.args.rule.now) c.in_ok-push_listed.ensures c.in_ok-push_captures.ensures c.requires,
)

pub push_rule-push_captures-requires-3 : goal.push_rule-push_captures-requires-3
push_rule-push_captures-requires-3 t c = (
  search rules,
  small_3 c.args.targets.now c.args.self.now c.push_listed.new.self c.push_captures.new.self
      c.push_captures-2.new.self (rule_of c.args.rule.now) c.in_ok-push_listed.ensures c.in_ok-push_captures.ensures
      c.in_ok-push_captures-2.ensures c.requires,
)

pub push_rule-push_captures-requires-4 : goal.push_rule-push_captures-requires-4
push_rule-push_captures-requires-4 t c = (
  search rules,
  small_4 c.args.targets.now c.args.self.now c.push_listed.new.self c.push_captures.new.self
      c.push_captures-2.new.self c.push_captures-3.new.self (rule_of c.args.rule.now) c.in_ok-push_listed.ensures
      c.in_ok-push_captures.ensures c.in_ok-push_captures-2.ensures c.in_ok-push_captures-3.ensures c.requires,
)

pub push_rule-push_patterns-requires : goal.push_rule-push_patterns-requires
push_rule-push_patterns-requires t c = (
  search rules,
  small_5 c.args.targets.now c.args.self.now c.push_listed.new.self c.push_captures.new.self
      c.push_captures-2.new.self c.push_captures-3.new.self c.push_captures-4.new.self (rule_of c.args.rule.now)
      c.in_ok-push_listed.ensures c.in_ok-push_captures.ensures c.in_ok-push_captures-2.ensures
      c.in_ok-push_captures-3.ensures c.in_ok-push_captures-4.ensures c.requires,
)

pub push_rule-returns : goal.push_rule-returns
push_rule-returns t c =
    on_ok c.push_patterns.result
    (after_parts c.args.targets.now c.args.self.now c.push_listed.new.self c.push_captures.new.self
    c.push_captures-2.new.self c.push_captures-3.new.self c.push_captures-4.new.self c.push_patterns.new.self
    (rule_of c.args.rule.now) c.in_ok-push_listed.ensures c.in_ok-push_captures.ensures
    c.in_ok-push_captures-2.ensures c.in_ok-push_captures-3.ensures c.in_ok-push_captures-4.ensures)
    c.push_patterns.ensures

pub push_all_captures-push_capture-requires : goal.push_all_captures-push_capture-requires
push_all_captures-push_capture-requires t c =
    let g = c.args.targets.now in
    let items = c.as_slice-capture-items.result.now in
    let rest = capture_list (drop (c.loop-capture.capture-index + 1) items) in
    let falls : deep-Capture c.capture-item.result ≤ weight c.args.captures.now =
    capture_weighs items c.loop-capture.capture-index c.capture-item.result c.args.captures.now c.loop-capture-test.true
    c.capture-item.is c.as_slice-capture-items.ensures in (
      search rules,
      small_before g (after g c.loop-capture.self (capture_then c.capture-item.result nothing)) rest
          (subst IsSmall
          (ap (after g c.args.self.now) (sym c.as_slice-capture-items.ensures) ∙ sym c.loop-capture.invariant
          ∙ captures_next g c.loop-capture.self items c.loop-capture.capture-index c.capture-item.result
          c.loop-capture-test.true
          ∙ ap (λ x. after g (after g c.loop-capture.self (capture_then x nothing)) rest) (sym c.capture-item.is))
          c.requires),
    )

pub push_all_captures-loop-capture-preserved : goal.push_all_captures-loop-capture-preserved
push_all_captures-loop-capture-preserved t c =
    let g = c.args.targets.now in
    let items = c.as_slice-capture-items.result.now in
    let rest = capture_list (drop (c.loop-capture.capture-index + 1) items) in
    ap (λ v. after g v rest) c.in_ok-push_capture.ensures
    ∙ ap (λ x. after g (after g c.loop-capture.self (capture_then x nothing)) rest) c.capture-item.is
    ∙ sym (captures_next g c.loop-capture.self items c.loop-capture.capture-index c.capture-item.result
    c.loop-capture-test.true)
    ∙ c.loop-capture.invariant

pub push_entries-push_entry-requires : goal.push_entries-push_entry-requires
push_entries-push_entry-requires t c =
    let g = c.args.targets.now in
    let items = c.as_slice-entry-items.result.now in
    let rest = entry_list (drop (c.loop-entry.entry-index + 1) items) in
    let falls : deep-Entry c.entry-item.result ≤ weight c.args.entries.now =
    entry_weighs items c.loop-entry.entry-index c.entry-item.result c.args.entries.now c.loop-entry-test.true
    c.entry-item.is c.as_slice-entry-items.ensures in (
      search rules,
      small_before g (after g c.loop-entry.self (entry_then c.entry-item.result nothing)) rest
          (subst IsSmall
          (ap (after g c.args.self.now) (sym c.as_slice-entry-items.ensures) ∙ sym c.loop-entry.invariant
          ∙ entries_next g c.loop-entry.self items c.loop-entry.entry-index c.entry-item.result c.loop-entry-test.true
          ∙ ap (λ x. after g (after g c.loop-entry.self (entry_then x nothing)) rest) (sym c.entry-item.is))
          c.requires),
    )

pub push_entries-loop-entry-preserved : goal.push_entries-loop-entry-preserved
push_entries-loop-entry-preserved t c =
    let g = c.args.targets.now in
    let items = c.as_slice-entry-items.result.now in
    let rest = entry_list (drop (c.loop-entry.entry-index + 1) items) in
    ap (λ v. after g v rest) c.in_ok-push_entry.ensures
    ∙ ap (λ x. after g (after g c.loop-entry.self (entry_then x nothing)) rest) c.entry-item.is
    ∙ sym (entries_next g c.loop-entry.self items c.loop-entry.entry-index c.entry-item.result c.loop-entry-test.true)
    ∙ c.loop-entry.invariant

pub push_capture-push_group-requires : goal.push_capture-push_group-requires
push_capture-push_group-requires t c =
    let capture_ = c.args.capture.now in
    room_of_capture c.args.targets.now c.args.self.now capture_.number capture_.name capture_.content c.in-Some.entries
    (subst IsSmall (ap (λ p. after c.args.targets.now c.args.self.now
    (capture capture_.number capture_.name capture_.content (if_there p) nothing)) c.in-Some.is) c.requires)
