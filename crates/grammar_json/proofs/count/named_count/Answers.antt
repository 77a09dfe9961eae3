use Rattle.std.proofs.Common.{◌≡◌, ap, map, arith}
use Rattle.grammar_defs.specs.GrammarShape.{rules_of_named, rules_of_rule}
use Rattle.grammar_json.specs.FileViews.{rule_of}
use Rattle.grammar_json.specs.NamedViews.{named_view}
use Rattle.grammar_json.proofs.CountLemmas.{named_step, named_end}
use Rattle.grammar_json.proofs.count.named_count.Goals as goal

pub loop-named-preserved : goal.loop-named-preserved
loop-named-preserved c =
    let step = named_step c.as_slice-named-items.result.now c.loop-named.named-index c.named-item.result
    c.loop-named-test.true in
    let same = ap (λ r. rules_of_rule (rule_of r.rule)) c.named-item.is in
    record {
      all = omega (
        arith,
        c.loop-named.invariant.all,
        step,
        same,
        c.saturating_add-count.ensures,
        c.count_of_rule.ensures,
      );
      fits = omega (arith, c.saturating_add-count.ensures);
    }

pub returns : goal.returns
returns c =
    let all : rules_of_named (map named_view c.as_slice-named-items.result.now)
    ≡ rules_of_named (map named_view c.args.rules.now) =
    ap (λ rs. rules_of_named (map named_view rs)) c.as_slice-named-items.ensures in
    let none = named_end c.as_slice-named-items.result.now c.loop-named.named-index c.loop-named-test.false in
    omega (arith, c.loop-named.invariant.all, c.loop-named.invariant.fits, none, all)
