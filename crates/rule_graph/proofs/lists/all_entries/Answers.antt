use Rattle.std.proofs.Common.{◌+◌, ◌++◌, map, drop, ap, ◌∙◌, sym, arith}
use Rattle.grammar_defs.specs.GrammarShape.{rules_of_list, capture_rules}
use Rattle.grammar_json.specs.FileViews.{capture_list, capture_then, if_there}
use Rattle.grammar_json.proofs.CountLemmas.{captures_step}
use Rattle.rule_table.specs.Views.{entry_of}
use Rattle.graph_defs.specs.ListedRules.{entries}
use Rattle.rule_graph.proofs.ListLemmas.{captures_more}
use Rattle.rule_graph.proofs.lists.all_entries.Goals as goal

pub push_capture-requires : goal.push_capture-requires
push_capture-requires c =
    omega (
      arith,
      captures_step c.as_slice-capture-items.result.now c.loop-capture.capture-index c.capture-item.result
          c.loop-capture-test.true,
      ap (λ p. capture_rules (if_there p.patterns)) c.capture-item.is,
      ap rules_of_list c.as_slice-capture-items.ensures,
      c.loop-capture.invariant.next,
      c.requires,
    )

pub loop-capture-preserved : goal.loop-capture-preserved
loop-capture-preserved c =
    let items = c.as_slice-capture-items.result.now in
    let rest = capture_list (drop (c.loop-capture.capture-index + 1) items) in
    record {
      next = omega (
        arith,
        captures_step items c.loop-capture.capture-index c.capture-item.result c.loop-capture-test.true,
        ap (λ p. capture_rules (if_there p.patterns)) c.capture-item.is,
        c.loop-capture.invariant.next,
        c.in_ok-next.ensures.next,
      );
      list = sym (c.in_ok-next.ensures.list rest)
          ∙ ap (λ x. map entry_of c.loop-capture.list ++ entries c.loop-capture.next (capture_then x rest))
          c.capture-item.is
          ∙ ap (λ x. map entry_of c.loop-capture.list ++ entries c.loop-capture.next x)
          (sym (captures_more items c.loop-capture.capture-index c.capture-item.result c.loop-capture-test.true))
          ∙ c.loop-capture.invariant.list;
    }
