use Rattle.std.proofs.Common.{◌≡◌, ℕ, ◌-◌, ◌≤◌, length, take, drop, ap, ◌∙◌, arith}
use Rattle.std.proofs.lemmas.List.{length-take, length-drop}
use Rattle.line_list.specs.Parts.{items_of, part_items}
use Rattle.line_list.proofs.Laid.{IsFound, found, run_at}
use Rattle.line_list.proofs.pieces.run_in.Goals as goal
use Rattle.line_list.proofs.pieces.run_in.Goals.{After-deref-2}

here : (g : _) (c : After-deref-2 g) → IsFound c.args.parts.now c.part_with.result c.args.n
    c.index-parts-part_with.result
here g c =
    found c.args.parts.now c.part_with.result c.args.n c.index-parts-part_with.result c.requires.laid
    c.part_with.ensures.there c.index-parts-part_with.is
    c.part_with.ensures.begins c.part_with.ensures.ends

items : (g : _) (c : After-deref-2 g) → c.deref-2.result.now ≡ part_items c.index-parts-part_with.result
items g c = c.deref-2.ensures.value ∙ ap (λ v. v.items) c.deref.ensures

fits : (g : _) (c : After-deref-2 g) → c.args.n - c.index-parts-part_with.result.start ≤ length c.deref-2.result.now
fits g c = let h = here g c in rw (items g c) (omega (arith, h.low, h.high))

pub overflow_sub-result : goal.overflow_sub-result
overflow_sub-result g c = (here g ((goal.at.overflow_sub-result g c).After-deref-2)).low

pub offset_bounds-deref-n : goal.offset_bounds-deref-n
offset_bounds-deref-n g c = fits g ((goal.at.offset_bounds-deref-n g c).After-deref-2)

pub slice_bounds-result-count : goal.slice_bounds-result-count
slice_bounds-result-count g c = fits g ((goal.at.slice_bounds-result-count g c).After-deref-2)

pub slice_bounds-result-start : goal.slice_bounds-result-start
slice_bounds-result-start g c = let h = fits g ((goal.at.slice_bounds-result-start g c).After-deref-2) in
    omega (arith, h)

pub returns-clause-some : goal.returns-clause-some
returns-clause-some g c =
    let start = (goal.at.returns-clause-some g c).After-deref-2 in
    let h = here g start in
    let j : ℕ = c.args.n - c.index-parts-part_with.result.start in
    let xs = c.deref-2.result.now in
    omega (arith, h.low, h.high, ap length (items g start), length-take (length xs - j) (drop j xs), length-drop j xs)

whole : (g : _) (c : After-deref-2 g) → take
    (length (take (length c.deref-2.result.now - (c.args.n - c.index-parts-part_with.result.start))
    (drop (c.args.n - c.index-parts-part_with.result.start) c.deref-2.result.now)))
    (drop c.args.n (items_of c.args.parts.now))
    ≡ take (length c.deref-2.result.now - (c.args.n - c.index-parts-part_with.result.start))
    (drop (c.args.n - c.index-parts-part_with.result.start) c.deref-2.result.now)
whole g c =
    let j : ℕ = c.args.n - c.index-parts-part_with.result.start in
    let xs = c.deref-2.result.now in
    let m : ℕ = length xs - j in
    let all = items_of c.args.parts.now in
    let len : length (take m (drop j xs)) ≡ m = omega (arith, length-take m (drop j xs), length-drop j xs) in
    let run : take m (drop c.args.n all) ≡ take m (drop j xs) =
    rw (items g c) (run_at c.args.parts.now c.part_with.result c.args.n c.index-parts-part_with.result
    (here g c)) in
    ap (λ k. take k (drop c.args.n all)) len ∙ run

pub returns-clause-run : goal.returns-clause-run
returns-clause-run g c = whole g ((goal.at.returns-clause-run g c).After-deref-2)

pub returns-clause-within : goal.returns-clause-within
returns-clause-within g c =
    let start = (goal.at.returns-clause-within g c).After-deref-2 in
    let j : ℕ = c.args.n - c.index-parts-part_with.result.start in
    let xs = c.deref-2.result.now in
    let all = items_of c.args.parts.now in
    let run = take (length xs - j) (drop j xs) in
    omega (
      arith,
      ap length (whole g start),
      length-take (length run) (drop c.args.n all),
      length-drop c.args.n all,
      c.requires.within,
    )
