use Rattle.std.proofs.Common.{◌≡◌, ap, ◌∙◌, arith}
use Rattle.grammar_defs.specs.GrammarShape.{rules_of_list, capture_rules}
use Rattle.grammar_json.specs.FileViews.{entry_list, capture_list, entry_rules, if_there}
use Rattle.grammar_json.proofs.CountLemmas.{entries_step, captures_step, entries_end, captures_end}
use Rattle.grammar_json.proofs.count.+count.Goals as goal

pub entries_count-loop-entry-preserved : goal.entries_count-loop-entry-preserved
entries_count-loop-entry-preserved t c =
    let step = entries_step c.deref-entry-items.result.now c.loop-entry.entry-index c.entry-item.result
    c.loop-entry-test.true in
    let same = ap entry_rules c.entry-item.is in
    record {
      all = omega (
        arith,
        c.loop-entry.invariant.all,
        step,
        same,
        c.saturating_add-count.ensures,
        c.entry_count.ensures,
      );
      fits = omega (arith, c.saturating_add-count.ensures);
    }

pub entries_count-returns-clause-count : goal.entries_count-returns-clause-count
entries_count-returns-clause-count t c =
    let all : rules_of_list (entry_list c.deref-entry-items.result.now) ≡ rules_of_list c.args.entries.now =
    ap (λ es. rules_of_list (entry_list es)) c.deref-entry-items.ensures.value
    ∙ ap rules_of_list c.entries.view_is in
    let none = entries_end c.deref-entry-items.result.now c.loop-entry.entry-index c.loop-entry-test.false in
    omega (arith, c.loop-entry.invariant.all, c.loop-entry.invariant.fits, none, all)

pub all_captures_count-loop-capture-preserved : goal.all_captures_count-loop-capture-preserved
all_captures_count-loop-capture-preserved t c =
    let step = captures_step c.deref-capture-items.result.now c.loop-capture.capture-index c.capture-item.result
    c.loop-capture-test.true in
    let same = ap (λ p. capture_rules (if_there p.patterns)) c.capture-item.is in
    record {
      all = omega (
        arith,
        c.loop-capture.invariant.all,
        step,
        same,
        c.saturating_add-count.ensures,
        c.capture_count.ensures,
      );
      fits = omega (arith, c.saturating_add-count.ensures);
    }

pub all_captures_count-returns : goal.all_captures_count-returns
all_captures_count-returns t c =
    let all : rules_of_list (capture_list c.deref-capture-items.result.now) ≡ rules_of_list c.args.captures.now =
    ap (λ es. rules_of_list (capture_list es)) c.deref-capture-items.ensures.value
    ∙ ap rules_of_list c.captures-2.view_is in
    let none = captures_end c.deref-capture-items.result.now c.loop-capture.capture-index c.loop-capture-test.false in
    omega (arith, c.loop-capture.invariant.all, c.loop-capture.invariant.fits, none, all)
