use Rattle.std.proofs.Common.{◌≡◌, [], ◌∷◌, ◌+◌, ◌++◌, drop, map, ap, ◌∙◌, arith}
use Rattle.std.specs.List.{count_by}
use Rattle.grammar_defs.specs.GrammarShape.{rules_of_rule, rules_of_named}
use Rattle.grammar_json.specs.FileViews.{rule_of}
use Rattle.grammar_json.specs.NamedViews.{named_view}
use Rattle.grammar_json.proofs.CountLemmas.{named_step}
use Rattle.graph_defs.specs.ListedInjections.{key_entries, listed_from, is_no_selector}
use Rattle.rule_graph.specs.Keyed.{listed_keys}
use Rattle.rule_graph.proofs.InjectionLemmas.{keys_next, unread_next, few_unread_keys}
use Rattle.rule_graph.proofs.injections.read_keys.Goals as goal

pub read_key-requires : goal.read_key-requires
read_key-requires c =
    let items = c.as_slice-named-items.result.now in
    let all = few_unread_keys (map named_view items) in
    let same = ap (λ xs. rules_of_named (map named_view xs)) c.as_slice-named-items.ensures in
    omega (arith, all, same, c.requires, c.loop-named.invariant.unread)

pub overflow_add-next : goal.overflow_add-next
overflow_add-next c =
    let items = c.as_slice-named-items.result.now in
    let same = ap (λ xs. rules_of_named (map named_view xs)) c.as_slice-named-items.ensures in
    let step = named_step items c.loop-named.named-index c.named-item.result c.loop-named-test.true in
    let one = ap (λ x. rules_of_rule (rule_of x.rule)) c.named-item.is in
    omega (arith, step, one, same, c.requires, c.loop-named.invariant.next, c.count_of_rule.ensures)

pub loop-named-preserved : goal.loop-named-preserved
loop-named-preserved c =
    let items = c.as_slice-named-items.result.now in
    let i = c.loop-named.named-index in
    let same = ap (λ xs. rules_of_named (map named_view xs)) c.as_slice-named-items.ensures in
    let step = named_step items i c.named-item.result c.loop-named-test.true in
    let one = ap (λ x. rules_of_rule (rule_of x.rule)) c.named-item.is in
    let count : c.count_of_rule.result ≡ rules_of_rule (rule_of c.named-item.result.rule) =
    omega (arith, step, one, same, c.requires, c.loop-named.invariant.next, c.count_of_rule.ensures) in
    let front = listed_keys c.loop-named.keys.read in
    let rest = map named_view (drop (i + 1) items) in
    record {
      next = omega (arith, step, one, count, c.loop-named.invariant.next);
      read = ap (λ l. l ++ listed_from (c.loop-named.next + c.count_of_rule.result) rest)
          (c.in_ok-read_key.ensures.read ∙ ap (λ t. front ++ key_entries t c.loop-named.next) c.text.ensures)
          ∙ ap (λ n. (front ++ key_entries c.named-item.result.key c.loop-named.next)
          ++ listed_from (c.loop-named.next + n) rest) count
          ∙ ap (λ x. (front ++ key_entries x.key c.loop-named.next)
          ++ listed_from (c.loop-named.next + rules_of_rule (rule_of x.rule)) rest) c.named-item.is
          ∙ keys_next front c.loop-named.next items i c.named-item.result c.loop-named-test.true
          ∙ c.loop-named.invariant.read;
      unread = omega (
        arith,
        c.in_ok-read_key.ensures.unread,
        ap (λ t. count_by is_no_selector (t ∷ [])) (c.text.ensures ∙ ap (λ x. x.key) c.named-item.is),
        unread_next items i c.named-item.result c.loop-named-test.true,
        c.loop-named.invariant.unread,
      );
    }
