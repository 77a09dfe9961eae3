use Rattle.std.proofs.Common.{◌+◌, ◌++◌, drop, ap, ◌∙◌, sym, arith}
use Rattle.grammar_defs.specs.GrammarShape.{rules_of_list}
use Rattle.grammar_json.specs.FileViews.{entry_list, entry_then, entry_rules}
use Rattle.grammar_json.proofs.CountLemmas.{entries_step}
use Rattle.graph_defs.specs.ListedRules.{members}
use Rattle.rule_graph.specs.Listing.{numbers}
use Rattle.rule_graph.proofs.ListLemmas.{entries_more}
use Rattle.rule_graph.proofs.lists.members.Goals as goal

pub push_member-requires : goal.push_member-requires
push_member-requires c =
    omega (
      arith,
      entries_step c.as_slice-entry-items.result.now c.loop-entry.entry-index c.entry-item.result
          c.loop-entry-test.true,
      ap entry_rules c.entry-item.is,
      ap rules_of_list c.as_slice-entry-items.ensures,
      c.loop-entry.invariant.next,
      c.requires,
    )

pub loop-entry-preserved : goal.loop-entry-preserved
loop-entry-preserved c =
    let items = c.as_slice-entry-items.result.now in
    let rest = entry_list (drop (c.loop-entry.entry-index + 1) items) in
    let found = numbers c.loop-entry.ids in
    record {
      next = omega (
        arith,
        entries_step items c.loop-entry.entry-index c.entry-item.result c.loop-entry-test.true,
        ap entry_rules c.entry-item.is,
        c.loop-entry.invariant.next,
        c.in_ok-next.ensures.next,
      );
      ids = sym (c.in_ok-next.ensures.ids rest)
          ∙ ap (λ x. found ++ members c.args.targets.now c.loop-entry.next (entry_then x rest)) c.entry-item.is
          ∙ ap (λ x. found ++ members c.args.targets.now c.loop-entry.next x)
          (sym (entries_more items c.loop-entry.entry-index c.entry-item.result c.loop-entry-test.true))
          ∙ c.loop-entry.invariant.ids;
    }
