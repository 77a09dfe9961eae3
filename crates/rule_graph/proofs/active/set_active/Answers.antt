use Rattle.std.proofs.Common.{rules, ◌≡◌, length, map, arith, sym, ap, ◌∙◌, [], ◌∷◌}
use Rattle.std.proofs.lemmas.List.{nil_from_length, length-append, length-set}
use Rattle.rule_table.specs.Views.{rule_of}
use Rattle.rule_graph.specs.Listing.{numbers}
use Rattle.rule_graph.specs.Opening.{with_lists}
use Rattle.rule_graph.proofs.ListingLemmas.{set_step, with_lists_end, with_ids}
use Rattle.rule_graph.proofs.active.set_active.Goals as goal

pub loop-list-preserved : goal.loop-list-preserved
loop-list-preserved c =
    let at : c.len-at.result ≡ length c.pop.new.self.items = omega (arith, c.len-at.ensures, c.pop.new.self.ok) in
    let parts = length-append c.pop.new.self.items (c.in-Some.list ∷ []) in
    let whole = ap length c.in-Some.ensures.items in (
      set_step c.loop-list.rules.items c.pop.new.self.items c.in-Some.list c.len-at.result c.index_mut.result.now
          (omega (arith, parts, whole, c.loop-list.invariant.1)) at (search rules)
          ∙ ap (λ lists. with_lists (map rule_of c.loop-list.rules.items) (map numbers lists))
          (sym c.in-Some.ensures.items)
          ∙ c.loop-list.invariant.0,
      omega (
        arith,
        parts,
        whole,
        c.loop-list.invariant.1,
        length-set c.loop-list.rules.items c.len-at.result (with_ids c.index_mut.result.now c.in-Some.list),
      ),
    )

pub returns : goal.returns
returns c =
    sym (with_lists_end (map rule_of c.loop-list.rules.items))
    ∙ ap (λ lists. with_lists (map rule_of c.loop-list.rules.items) (map numbers lists))
    (sym (nil_from_length c.loop-list.lists.items (omega (arith, c.in_default.ensures.cases.0, c.loop-list.lists.ok))))
    ∙ c.loop-list.invariant.0
