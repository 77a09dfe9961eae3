use Rattle.std.proofs.Common.{◌≡◌, ℕ, ◌+◌, ◌-◌, ◌<◌, ◌≤◌, List, length, take, get_or, ap, ◌∙◌, refl, min, arith}
use Rattle.std.proofs.lemmas.List.{length-append}
use Rattle.line_list.specs.declared.pieces.TheConstants.{MOST_IN_PIECE}
use Rattle.line_list.specs.declared.pieces.Part.{Part}
use Rattle.line_list.specs.Parts.{items_of, part_items}
use Rattle.line_list.proofs.Laid.{start_read, few_read, items_of-take_more, run_added, ends_of, ends_next}
use Rattle.line_list.proofs.list.LineList.push_parts.Goals as goal
use Rattle.line_list.proofs.list.LineList.push_parts.Goals.{After-len}

-- the piece that an iteration is at
record IsHere {X : Type 0} (ps : List (Part X)) (n at count : ℕ) (p : Part X) : Type 0 where
  there : n < length ps
  is : p ≡ get_or ps n p
  starts : p.start ≡ length (items_of (take n ps))
  low : p.start ≤ at
  high : at < p.start + count
  next : length (items_of (take (n + 1) ps)) ≡ p.start + count
  few : count ≤ MOST_IN_PIECE
  counted : length (part_items p) ≡ count

here : (g : _) (c : After-len g) → IsHere c.args.parts.now c.loop-at.n c.loop-at.at c.len.result c.index-parts-n.result
here g c =
    let ps = c.args.parts.now in
    let n = c.loop-at.n in
    let p = c.index-parts-n.result in
    let items = p.items.value in
    let there : n < length ps = c.loop-at.invariant.there c.loop-at-test.true in
    let len : c.len.result ≡ length items.items = (rw c.deref.ensures at c.len.ensures) ∙ items.ok.0 in
    let starts = start_read ps n p c.requires.laid there c.index-parts-n.is in
    let few = few_read ps n p c.requires.laid there c.index-parts-n.is in
    let low = c.loop-at.invariant.begins c.loop-at-test.true in
    let high = c.loop-at.invariant.ends c.loop-at-test.true in
    let next = ap length (items_of-take_more ps n p there c.index-parts-n.is)
    ∙ length-append (items_of (take n ps)) (part_items p) in
    let counted : length (part_items p) ≡ length items.items = refl in
    record {
      there = there;
      is = c.index-parts-n.is;
      starts = starts;
      low = omega (arith, starts, low);
      high = omega (arith, starts, high, next, counted, len);
      next = omega (arith, starts, next, counted, len);
      few = omega (arith, few.1, counted, len);
      counted = omega (arith, counted, len);
    }

pub overflow_sub-end : goal.overflow_sub-end
overflow_sub-end g c =
    let h = here g ((goal.at.overflow_sub-end g c).After-len) in
    omega (arith, h.low, c.loop-at-test.true)

pub overflow_sub-at : goal.overflow_sub-at
overflow_sub-at g c =
    let h = here g ((goal.at.overflow_sub-at g c).After-len) in
    omega (arith, h.low)

pub push_part-requires-clause-rises : goal.push_part-requires-clause-rises
push_part-requires-clause-rises g c =
    let h = here g ((goal.at.push_part-requires-clause-rises g c).After-len) in
    omega (arith, h.low, h.high, c.min-last.ensures, c.loop-at-test.true)

pub push_part-requires-clause-few : goal.push_part-requires-clause-few
push_part-requires-clause-few g c =
    let h = here g ((goal.at.push_part-requires-clause-few g c).After-len) in
    omega (arith, h.few, h.counted)

pub loop-at-smaller : goal.loop-at-smaller
loop-at-smaller g c =
    let h = here g ((goal.at.loop-at-smaller g c).After-len) in
    let less : (c.args.from + c.args.count) - (c.index-parts-n.result.start + c.min-last.result) < (c.args.from
    + c.args.count) - c.loop-at.at =
    omega (arith, h.low, h.high, c.min-last.ensures, c.loop-at-test.true) in
    less

pub loop-at-preserved : goal.loop-at-preserved
loop-at-preserved g c =
    let ps = c.args.parts.now in
    let n = c.loop-at.n in
    let p = c.index-parts-n.result in
    let last = c.min-last.result in
    let end : ℕ = c.args.from + c.args.count in
    let h = here g ((goal.at.loop-at-preserved g c).After-len) in
    let l : last ≡ min c.len.result (end - p.start) = c.min-last.ensures in
    let whole : p.start + last < end → p.start + last ≡ length (items_of (take (n + 1) ps)) =
    λ b. omega (arith, h.next, l) in
    let there : p.start + last < end → n + 1 < length ps =
    λ b. ends_of ps (n + 1) (omega (arith, whole b, c.requires.within)) in
    record {
      rises = omega (arith, c.loop-at.invariant.rises, h.low, h.high, l, c.loop-at-test.true);
      within = omega (arith, l, h.low, c.loop-at-test.true);
      there = there;
      begins = λ b. omega (arith, whole b);
      ends = λ b. omega (arith, whole b, ends_next ps (n + 1) p c.requires.laid (there b));
      added = run_added ps n c.args.from c.loop-at.at last p c.args.self.now c.loop-at.self c.push_part.new.self
          h.there h.is h.starts h.low c.loop-at.invariant.rises
          (omega (arith, h.high, l, c.loop-at-test.true)) (omega (arith, h.counted, l)) c.loop-at.invariant.added
          c.in_ok-push_part.ensures;
    }
