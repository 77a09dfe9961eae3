use Rattle.std.proofs.Common.{◌≡◌, ℕ, ◌+◌, ◌-◌, ◌<◌, ◌≤◌, ◌++◌, length, get_or, ap, sym, ◌∙◌, refl, arith, set, ◌^◌}
use Rattle.std.proofs.lemmas.List.{length-append, get_or_default}
use Rattle.line_list.specs.declared.pieces.TheConstants.{MOST_IN_PIECE}
use Rattle.line_list.proofs.Full.{AreFull-set, AreFull-push}
use Rattle.line_list.specs.Parts.{items_of, part_items}
use Rattle.line_list.specs.declared.pieces.Part.{Part}
use Rattle.line_list.proofs.Laid.{grown, grown-items, pushed, items_of-push}
use Rattle.line_list.proofs.pieces.Pieces.add_piece.Goals as goal
use Rattle.line_list.proofs.pieces.Pieces.add_piece.Goals.{In_ok-both-2}
use Rattle.line_list.proofs.pieces.Pieces.add_piece.Goals.{then-pieces-gt0+else-len-count-le-MOST_IN_PIECE}
use Rattle.line_list.proofs.pieces.Pieces.add_piece.Goals.{else-pieces-gt0}

both : (g : _) (c : In_ok-both-2 g) → c.in_ok-both-2.both.value.items
    ≡ c.index-last.result.now.items.value.items ++ c.args.items.value.items
both g c =
    ap (λ v. v.items) c.in_ok-both-2.ensures.ok
    ∙ (rw (
      c.as_slice.ensures.value,
      c.as_slice-then-len-count-le-MOST_IN_PIECE.ensures.value,
      c.deref-then-len-count-le-MOST_IN_PIECE.ensures,
      c.deref-then-len-count-le-MOST_IN_PIECE-2.ensures,
    ) at c.in_ok-both.ensures)

count : (g : _) (c : In_ok-both-2 g) → (c.len-count.result ≡ length (c.args.items.value.items))
    × (c.len-pieces.result ≡ length c.self.inside.parts.items)
    × (length (c.in_ok-both-2.both.value.items) ≤ MOST_IN_PIECE)
count g c =
    let ps = c.self.inside.parts in
    let old = c.index-last.result.now.items.value in
    let items = c.args.items.value in
    let a : c.len-count.result ≡ length items.items = (rw c.deref.ensures at c.len-count.ensures) ∙ items.ok.0 in
    let b : c.len.result ≡ length old.items = (rw c.deref-then-pieces-gt0.ensures at c.len.ensures) ∙ old.ok.0 in
    let e = ap length (both g c) ∙ length-append (old.items) (items.items) in (
      omega (arith, a),
      c.len-pieces.ensures ∙ ps.ok.0,
      omega (arith, a, b, e, c.if-len-count-le-MOST_IN_PIECE.true),
    )

pub invariant_of-self : goal.invariant_of-self
invariant_of-self g c =
    let start = (goal.at.invariant_of-self g c).In_ok-both-2 in
    let ps = c.self.inside.parts.items in
    let i = c.len-pieces.result - 1 in
    let p = c.index-last.result.now in
    let items = c.args.items.value.items in
    let n = count g start in
    let at_end : i + 1 ≡ length ps = omega (arith, n.1, c.if-pieces-gt0.true) in
    let same = both g start in
    let q : Part g.row.T.Denot = record { start = p.start; items = c.in_ok-both-2.both } in
    let longer = grown-items ps i p q (items) at_end c.index-last.ensures same in
    let last = get_or_default ps i q p (omega arith) ∙ sym c.index-last.ensures in
    let grows : length (part_items (get_or ps i q)) ≤ length (part_items q) =
    rw last (omega (arith, ap length same, length-append p.items.value.items items)) in
    let some : 0 < length (c.in_ok-both-2.both.value.items) =
    omega (arith, ap length same, length-append (p.items.value.items) (items), c.requires.some) in (
      grown ps i p q c.self.invariant.0 at_end c.index-last.ensures refl some (n.2),
      omega (arith, c.self.invariant.1, n.0, ap length longer, length-append (items_of ps) (items)),
      omega (arith, c.self.invariant.1, n.0, ap length c.self.view_is, c.requires.fits),
      AreFull-set ps i q c.self.invariant.3 grows,
    )

pub returns-then-len-count-le-MOST_IN_PIECE-clause-added : goal.returns-then-len-count-le-MOST_IN_PIECE-clause-added
returns-then-len-count-le-MOST_IN_PIECE-clause-added g c =
    let start = (goal.at.returns-then-len-count-le-MOST_IN_PIECE-clause-added g c).In_ok-both-2 in
    let ps = c.self.inside.parts.items in
    let items = c.args.items.value.items in
    let at_end : (c.len-pieces.result - 1) + 1 ≡ length ps = omega (arith, (count g start).1, c.if-pieces-gt0.true) in
    grown-items ps (c.len-pieces.result - 1) c.index-last.result.now _ (items) at_end c.index-last.ensures
    (both g start)
    ∙ ap (λ xs. xs ++ items) c.self.view_is

pub invariant_of-self-2 : goal.invariant_of-self-2
invariant_of-self-2 g c =
    let ps = c.self.inside.parts.items in
    let items = c.args.items.value in
    let n : c.len-count.result ≡ length items.items = (rw c.deref.ensures at c.len-count.ensures) ∙ items.ok.0 in
    let pieces : c.len-pieces.result ≡ length ps = c.len-pieces.ensures ∙ c.self.inside.parts.ok.0 in
    let q : Part g.row.T.Denot = record { start = c.self.inside.len; items = c.args.items } in
    let past : (i : ℕ) → i + 1 ≡ length ps → MOST_IN_PIECE < length (part_items (get_or ps i q)) + length
    items.items = λ i e.
    elim c.if-pieces-gt0.branch [
      | then-pieces-gt0+else-len-count-le-MOST_IN_PIECE w ↦
          let old = w.index-last.result.now.items.value in
          let b : w.len.result ≡ length old.items = (rw w.deref-then-pieces-gt0.ensures at w.len.ensures) ∙ old.ok.0 in
          let at_end : c.len-pieces.result - 1 ≡ i = omega (arith, e, pieces) in
          let is = ap (λ k. get_or ps k q) (sym at_end)
          ∙ get_or_default ps (c.len-pieces.result - 1) q w.index-last.result.now (omega (arith, e, pieces))
          ∙ sym w.index-last.ensures in
          rw is (omega (arith, b, n, w.if-len-count-le-MOST_IN_PIECE.false))
      | else-pieces-gt0 w ↦ absurd (omega (arith, e, pieces, w.if-pieces-gt0.false))
    ] in
    rw c.in_ok-push.ensures.items (
      pushed ps _ c.self.invariant.0 c.self.invariant.1 (omega (arith, c.requires.some))
          (omega (arith, c.requires.few)),
      rw (items_of-push ps) (omega (arith, n, c.self.invariant.1, length-append (items_of ps) (items.items))),
      omega (arith, n, c.self.invariant.1, ap length c.self.view_is, c.requires.fits),
      AreFull-push ps q c.self.invariant.3 (λ i e. past i e),
    )

pub returns-then-len-count-le-MOST_IN_PIECE-clause-few : goal.returns-then-len-count-le-MOST_IN_PIECE-clause-few
returns-then-len-count-le-MOST_IN_PIECE-clause-few g c =
    let start = (goal.at.returns-then-len-count-le-MOST_IN_PIECE-clause-few g c).In_ok-both-2 in
    let ps = c.self.inside.parts.items in
    let items = c.args.items.value.items in
    let q : Part g.row.T.Denot = record { start = c.index-last.result.now.start; items = c.in_ok-both-2.both } in
    let at_end : (c.len-pieces.result - 1) + 1 ≡ length ps = omega (arith, (count g start).1, c.if-pieces-gt0.true) in
    let longer = grown-items ps (c.len-pieces.result - 1) c.index-last.result.now q (items) at_end
    c.index-last.ensures (both g start) in
    let fits : length (items_of (set ps (c.len-pieces.result - 1) q)) ≤ 2 ^ 31 =
    omega (arith, ap length longer, length-append (items_of ps) (items), ap length c.self.view_is, c.requires.fits) in
    fits
