use Rattle.std.proofs.Common.{◌-◌, ◌<◌, ◌≤◌, length, take, ap, ◌∙◌, arith}
use Rattle.std.proofs.lemmas.List.{length-append}
use Rattle.line_list.specs.Parts.{items_of, part_items}
use Rattle.line_list.proofs.Laid.{start_read, items_of-take_more, item_read}
use Rattle.line_list.proofs.pieces.item_in.Goals as goal

pub overflow_sub-n : goal.overflow_sub-n
overflow_sub-n g c =
    let s = start_read c.args.parts.now c.part_with.result c.index-parts-part_with.result c.requires.laid
    c.part_with.ensures.there c.index-parts-part_with.is in
    omega (arith, s, c.part_with.ensures.begins)

pub index-requires : goal.index-requires
index-requires g c =
    let p = c.index-parts-part_with.result in
    let s = start_read c.args.parts.now c.part_with.result p c.requires.laid c.part_with.ensures.there
    c.index-parts-part_with.is in
    let more = ap length (items_of-take_more c.args.parts.now c.part_with.result p c.part_with.ensures.there
    c.index-parts-part_with.is)
    ∙ length-append (items_of (take c.part_with.result c.args.parts.now)) (part_items p) in
    rw c.deref.ensures (omega (
      arith,
      s,
      more,
      c.part_with.ensures.begins,
      c.part_with.ensures.ends,
      p.items.value.ok.0,
    ))

pub returns : goal.returns
returns g c =
    let ps = c.args.parts.now in
    let i = c.part_with.result in
    let p = c.index-parts-part_with.result in
    let s = start_read ps i p c.requires.laid c.part_with.ensures.there c.index-parts-part_with.is in
    let more = ap length (items_of-take_more ps i p c.part_with.ensures.there c.index-parts-part_with.is)
    ∙ length-append (items_of (take i ps)) (part_items p) in
    let low : p.start ≤ c.args.n = omega (arith, s, c.part_with.ensures.begins) in
    let below : c.args.n - p.start < length p.items.value.items =
    omega (arith, s, more, c.part_with.ensures.begins, c.part_with.ensures.ends) in
    item_read ps i c.args.n p c.index.result.now c.part_with.ensures.there c.index-parts-part_with.is s low below
    (rw c.deref.ensures at c.index.ensures)
