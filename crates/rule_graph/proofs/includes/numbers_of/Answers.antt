use Rattle.std.proofs.Common.{arith}
use Rattle.std.proofs.Common.{◌≡◌, ◌+◌, ◌-◌, ◌<◌, map, length, drop, ap}
use Rattle.grammar_defs.specs.GrammarShape.{rules_of_rule}
use Rattle.grammar_json.specs.FileViews.{rule_of}
use Rattle.grammar_json.specs.NamedViews.{named_view}
use Rattle.grammar_json.proofs.CountLemmas.{named_step}
use Rattle.rule_graph.proofs.Numbering.{rules_of_rest, numbers-step}
use Rattle.std.proofs.lemmas.Map.Text.{btree_map_updates_text}
use Rattle.std.proofs.lemmas.Result.{IfOk-at_ok}
use Rattle.std.proofs.Common.{string_bytes, get_or, ◌∙◌, cond}
use Rattle.std.specs.Prelude.{Some}
use Rattle.std.specs.Str.{bytes_eq}
use Rattle.std.specs.BTreeMap.{get_by_text}
use Rattle.rule_graph.specs.Keys.{AreNumbers}
use Rattle.rule_graph.proofs.includes.numbers_of.Goals as goal

pub overflow_sub-next : goal.overflow_sub-next
overflow_sub-next c =
    let at : c.loop-left.left - 1 + 1 ≡ c.loop-left.left = omega (arith, c.loop-left-test.true) in
    let in_list : c.loop-left.left - 1 < length c.as_slice-rules.result.now = omega
    (arith, c.loop-left-test.true, c.loop-left.invariant.inside) in
    let step = rw at at (named_step c.as_slice-rules.result.now
    (c.loop-left.left - 1) c.index-rules-left.result in_list) in
    let same = ap (λ r. rules_of_rule (rule_of r.rule)) c.index-rules-left.is in
    omega (
      arith,
      step,
      same,
      rules_of_rest c.as_slice-rules.result.now (c.loop-left.left - 1),
      c.loop-left.invariant.count,
      c.count_of_rule.ensures,
    )

pub loop-left-preserved : goal.loop-left-preserved
loop-left-preserved c =
    let at : c.loop-left.left - 1 + 1 ≡ c.loop-left.left = omega (arith, c.loop-left-test.true) in
    let in_list : c.loop-left.left - 1 < length c.as_slice-rules.result.now = omega
    (arith, c.loop-left-test.true, c.loop-left.invariant.inside) in
    let step = rw at at (named_step c.as_slice-rules.result.now
    (c.loop-left.left - 1) c.index-rules-left.result in_list) in
    let same = ap (λ r. rules_of_rule (rule_of r.rule)) c.index-rules-left.is in
    let fits = rules_of_rest c.as_slice-rules.result.now (c.loop-left.left - 1) in
    let key : string_bytes c.in_ok-from_str.field-0
    ≡ (get_or c.as_slice-rules.result.now (c.loop-left.left - 1) c.index-rules-left.result).key =
    IfOk-at_ok (λ s. string_bytes s ≡ c.text.result.now) c.in_ok-from_str.was c.from_str.ensures.ok
    ∙ c.text.ensures ∙ ap (λ r. r.key) c.index-rules-left.is in
    record {
      inside = omega arith;
      count = omega (arith, step, same, fits, c.loop-left.invariant.count, c.count_of_rule.ensures);
      numbers = numbers-step c.as_slice-rules.result.now (c.loop-left.left - 1) c.index-rules-left.result
          c.loop-left.numbers c.insert.new.self c.loop-left.next (c.loop-left.next - c.count_of_rule.result) in_list
          (let was : AreNumbers c.loop-left.numbers c.loop-left.next (map named_view (drop
          (c.loop-left.left - 1 + 1) c.as_slice-rules.result.now)) = rw at c.loop-left.invariant.numbers in was)
          (omega (arith, step, same, fits, c.loop-left.invariant.count, c.count_of_rule.ensures))
          (λ q. btree_map_updates_text (string_bytes c.in_ok-from_str.field-0) c.loop-left.numbers c.insert.new.self _
          c.in_ok-insert.ensures.updates q
          ∙ ap (λ bs. cond (bytes_eq bs q) (Some (c.loop-left.next - c.count_of_rule.result))
          (get_by_text c.loop-left.numbers q)) key);
    }
