use Rattle.std.proofs.Common.{◌≡◌, length, ap, ◌∙◌, arith}
use Rattle.std.proofs.lemmas.List.{length-map, take_all}
use Rattle.line_search.specs.Lists.{lists_of, all_lists}
use Rattle.std.specs.Rc.{rc_value}
use Rattle.line_search.proofs.Tables.{one_more, more_fit}
use Rattle.line_search.proofs.searcher.Searcher.new.Goals as goal

pub loop-id-preserved : goal.loop-id-preserved
loop-id-preserved c =
    let table : c.deref-in-loop-id.result.now ≡ rc_value c.args.table = c.deref-in-loop-id.ensures in
    record {
      lists = one_more (rc_value c.args.table).rules c.loop-id.id c.loop-id.lists.items c.push.new.self.items
          c.in_ok-lists_of.field-0 c.loop-id.invariant.lists c.in_ok-push.ensures.items
          (rw table at c.in_ok-lists_of.ensures.lists);
      fit = more_fit (length (rc_value c.args.table).rules) (rc_value c.args.table).groups c.loop-id.lists.items
          c.push.new.self.items c.in_ok-lists_of.field-0 c.in_ok-push.ensures.items c.loop-id.invariant.fit
          (rw table at c.in_ok-lists_of.ensures.fit);
    }

pub invariant_of-result : goal.invariant_of-result
invariant_of-result c =
    let table : c.deref-3.result.now ≡ rc_value c.args.table = c.deref-3.ensures in
    let whole : c.deref-2.result.now ≡ rc_value c.args.table = c.deref-2.ensures in
    let rules = (rc_value c.args.table).rules in
    let all = length-map rules (lists_of rules) in
    let end : c.loop-id.id ≡ length (rc_value c.args.table).rules =
    omega (arith, c.loop-id-test.false, c.loop-id.auto.id-end, c.len-id-end.ensures.count, ap (λ t. length t.rules) whole) in
    record {
      lists = c.loop-id.invariant.lists
          ∙ take_all c.loop-id.id (all_lists rules) (omega (arith, end, all));
      fit = c.loop-id.invariant.fit;
      injected = rw table at c.in_ok-injected.ensures.all;
      injected_fit = rw table at c.in_ok-injected.ensures.fit;
    }
