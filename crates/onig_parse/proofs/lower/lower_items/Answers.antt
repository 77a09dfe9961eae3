use Rattle.std.proofs.Common.{◌<◌, length, None, arith}
use Rattle.std.proofs.lemmas.List.{take_more}
use Rattle.onig_parse.proofs.FitsLemmas.{FitsItems-push}
use Rattle.onig_parse.proofs.FormedLists.{AreItems-at}
use Rattle.onig_parse.proofs.LateLemmas.{late_in-at}
use Rattle.onig_parse.proofs.lower.lower_items.Goals as goal

pub loop-item-preserved : goal.loop-item-preserved
loop-item-preserved c =
    let there : c.loop-item.item-index < length c.args.items.now = omega arith in
    rw (
      c.in_ok-push.ensures.items,
      take_more c.args.items.now c.loop-item.item-index c.item-item.result there,
      ← c.item-item.is,
    ) (FitsItems-push c.args.text.now c.args.parsed.now c.args.lengths.now _ _ _ _ c.loop-item.invariant
    c.in_ok-lower_item.ensures)

pub lower_item-requires-clause-formed : goal.lower_item-requires-clause-formed
lower_item-requires-clause-formed c =
    let there : c.loop-item.item-index < length c.args.items.now = omega arith in
    rw (c.item-item.is) (AreItems-at _ _ _ c.args.items.now c.loop-item.item-index _ c.requires.formed there)

pub lower_item-requires-clause-kept : goal.lower_item-requires-clause-kept
lower_item-requires-clause-kept c =
    let there : c.loop-item.item-index < length c.args.items.now = omega arith in
    rw (c.item-item.is) (late_in-at c.args.text.now c.args.parsed.now c.args.lengths.now c.args.items.now None
    c.loop-item.item-index _ c.requires.kept there)
