use Rattle.std.proofs.Common.{◌<◌, ◌≤◌, [], ◌∷◌, length, None, arith}
use Rattle.std.proofs.lemmas.List.{length-append, length-map}
use Rattle.onig_parse.specs.Formed.{AreItems}
use Rattle.onig_parse.proofs.ListLemmas.{map_more}
use Rattle.onig_parse.proofs.FitsLemmas.{FitsLists-push}
use Rattle.onig_parse.proofs.FormedLists.{AreItemLists-at}
use Rattle.onig_parse.proofs.FormedNodes.{AreNodes-fit}
use Rattle.onig_parse.proofs.LateLemmas.{late_among-at}
use Rattle.onig_parse.proofs.lower.lower.Goals as goal

pub lower_items-requires-clause-formed : goal.lower_items-requires-clause-formed
lower_items-requires-clause-formed c =
    let there : c.loop-items.items-index < length c.lists-items-items.result.now = omega arith in
    let room : c.loop-items.items-index ≤ length c.args.parsed.now.lists =
    rw (← c.lists-items-items.ensures, length-map) (omega arith) in
    rw (c.as_slice.ensures.value, c.items-item.is)
    (AreItemLists-at (λ items. items.items) c.args.text.now 0 c.args.parsed.now.groups c.lists-items-items.result.now
    c.loop-items.items-index (length c.args.parsed.now.lists) c.items-item.result
    (rw c.lists-items-items.ensures c.requires.formed.lists) there (omega arith))

pub lower_items-requires-clause-kept : goal.lower_items-requires-clause-kept
lower_items-requires-clause-kept c =
    let there : c.loop-items.items-index < length c.lists-items-items.result.now = omega arith in
    rw (c.as_slice.ensures.value, c.items-item.is)
    (late_among-at (λ items. items.items) c.args.text.now c.args.parsed.now c.args.lengths.now
    c.lists-items-items.result.now None c.loop-items.items-index c.items-item.result
    (rw (c.lists-items-items.ensures, c.requires.lengths) c.requires.kept) there)

pub push_list-requires : goal.push_list-requires
push_list-requires c =
    let there : c.loop-items.items-index < length c.lists-items-items.result.now = omega arith in
    let items : AreItems c.args.text.now (length c.loop-items.draft.lists) c.args.parsed.now.groups
    c.as_slice.result.now =
    rw (c.as_slice.ensures.value, c.items-item.is)
    (AreItemLists-at (λ items. items.items) c.args.text.now 0 c.args.parsed.now.groups c.lists-items-items.result.now
    c.loop-items.items-index (length c.loop-items.draft.lists) c.items-item.result
    (rw c.lists-items-items.ensures c.requires.formed.lists) there
    (omega (arith, c.loop-items.invariant.count))) in
    rw (c.loop-items.invariant.named)
    (AreNodes-fit c.args.text.now c.args.parsed.now c.args.lengths.now (length c.loop-items.draft.lists)
    c.in_ok-nodes.nodes.items c.as_slice.result.now c.requires.formed.names items c.in_ok-nodes.ensures)

pub loop-items-preserved : goal.loop-items-preserved
loop-items-preserved c =
    let there : c.loop-items.items-index < length c.lists-items-items.result.now = omega arith in
    record {
      fits = rw (
        c.in_ok-push_list.ensures.ok,
        map_more (λ items. items.items) c.lists-items-items.result.now c.loop-items.items-index c.items-item.result
            there,
        ← c.items-item.is,
      ) (FitsLists-push c.args.text.now c.args.parsed.now c.args.lengths.now _ _ _ _ c.loop-items.invariant.fits
          (rw c.as_slice.ensures.value at c.in_ok-nodes.ensures));
      count = rw (c.in_ok-push_list.ensures.ok)
          (omega (arith, length-append c.loop-items.draft.lists (c.in_ok-nodes.nodes.items ∷ [])));
      named = rw (c.in_ok-push_list.ensures.ok) c.loop-items.invariant.named;
    }
