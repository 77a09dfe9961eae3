use Rattle.std.proofs.Common.{◌≡◌, sym, ap, ◌∙◌, subst, arith, refl}
use Rattle.tree_defs.specs.Shape.{length_of}
use Rattle.node_reader.specs.Starts.{starting}
use Rattle.node_reader.specs.Paths.{root_of, offset_of, steps_back}
use Rattle.node_reader.proofs.Orders.{less_is, less_some, some_is, is_to_some, zero_is}
use Rattle.node_reader.proofs.Children.{inner, none_alone}
use Rattle.node_reader.proofs.Paths.{along, room_for}
use Rattle.node_reader.proofs.place.enter.Goals as goal

pub returns-then-is_zero-clause-found : goal.returns-then-is_zero-clause-found
returns-then-is_zero-clause-found c =
    let p = c.args.place.now in
    let inside = less_is p.rest (length_of p.node.now) c.requires.within in
    let zero = c.is_zero.ensures.0 c.if-is_zero.true in (
      along (steps_back p) p.node.now p.rest c.requires.is.path inside
          ∙ ap (λ o. starting p.node.now o) (zero_is p.rest zero.0 zero.1),
      is_to_some (length_of p.node.now) (less_some p.rest (length_of p.node.now) inside),
    )

pub returns-then-is_zero-2-clause-found : goal.returns-then-is_zero-2-clause-found
returns-then-is_zero-2-clause-found c =
    let p = c.loop-part.place in
    let same = c.loop-part.invariant.0 in
    let part = c.in-Some.part in
    let held = c.in-Some.ensures in
    let inside = less_is p.rest (length_of p.node.now) c.loop-part.invariant.1 in
    let in_part = less_is part.rest (length_of part.node.now) held.within in
    let zero = c.is_zero-in-Some.ensures.0 c.if-is_zero-2.true in
    let some = subst (λ o. starting p.node.now o ≡ starting p.node.now p.rest) (sym held.lies) refl in (
      ap (λ t. starting t (offset_of c.args.place.now)) (sym same.root)
          ∙ ap (λ o. starting (root_of p) o) (sym same.offset)
          ∙ along (steps_back p) p.node.now p.rest same.is.path inside
          ∙ ap (λ o. starting p.node.now o) (sym held.lies)
          ∙ inner p.node.now part.number part.node.now part.rest held.is in_part
          (rw held.lies (some_is p.rest c.loop-part.invariant.2))
          ∙ ap (λ o. starting part.node.now o) (zero_is part.rest zero.0 zero.1),
      is_to_some (length_of part.node.now) (less_some part.rest (length_of part.node.now) in_part),
    )

pub push_reserved-requires : goal.push_reserved-requires
push_reserved-requires c =
    let p = c.loop-part.place in
    let held = c.in-Some.ensures in (
      omega arith,
      room_for p.path.items p.node.now c.in-Some.part.node.now p.rest p.path.capacity c.loop-part.invariant.0.is.path
          held.lower c.loop-part.invariant.0.is.room,
    )

pub returns-clause-found : goal.returns-clause-found
returns-clause-found c =
    let p = c.loop-part.place in
    let same = c.loop-part.invariant.0 in
    ap (λ t. starting t (offset_of c.args.place.now)) (sym same.root)
    ∙ ap (λ o. starting (root_of p) o) (sym same.offset)
    ∙ along (steps_back p) p.node.now p.rest same.is.path
    (less_is p.rest (length_of p.node.now) c.loop-part.invariant.1)
    ∙ none_alone p.node.now p.rest c.in_default.ensures (some_is p.rest c.loop-part.invariant.2)
