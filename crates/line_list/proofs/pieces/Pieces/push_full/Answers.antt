use Rattle.std.proofs.Common.{◌≡◌, ℕ, ◌+◌, ◌<◌, length, get_or, ap, ◌∙◌, arith, length-append}
use Rattle.std.proofs.lemmas.List.{get_or_default}
use Rattle.line_list.specs.declared.pieces.TheConstants.{MOST_IN_PIECE}
use Rattle.line_list.specs.declared.pieces.Part.{Part}
use Rattle.line_list.specs.Parts.{items_of, part_items}
use Rattle.line_list.proofs.Full.{AreFull-push}
use Rattle.line_list.proofs.Laid.{pushed, items_of-push, few_read}
use Rattle.line_list.proofs.pieces.Pieces.push_full.Goals as goal

pub invariant_of-self-2 : goal.invariant_of-self-2
invariant_of-self-2 g c =
    let ps = c.self.inside.parts.items in
    let q : Part g.row.T.Denot = record { start = c.self.inside.len; items = c.in-Ok.items } in
    let same : part_items q ≡ c.args.items.items = ap (λ v. v.items) c.in-Ok.ensures.ok in
    let full : length (part_items q) ≡ MOST_IN_PIECE = ap length same ∙ c.requires.full in
    let past : (i : ℕ) → i + 1 ≡ length ps → MOST_IN_PIECE < length (part_items (get_or ps i q)) + length
    (part_items q) = λ i e.
    let some = few_read ps i (get_or ps i q) c.self.invariant.0 (omega arith)
    (get_or_default ps i q (get_or ps i q) (omega arith)) in
    omega (arith, some.0, full) in
    rw (c.in-Ok-push.ensures.items, c.reserve.ensures.items) (
      pushed ps q c.self.invariant.0 c.self.invariant.1 (omega (arith, full)) (omega (arith, full)),
      rw (items_of-push ps) (omega (arith, full, c.self.invariant.1, length-append (items_of ps) (part_items q))),
      omega (arith, c.self.invariant.1, ap length c.self.view_is, c.requires.fits),
      AreFull-push ps q c.self.invariant.3 past,
    )
