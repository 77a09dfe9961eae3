use Rattle.std.proofs.Common.{◌≡◌, ◌-◌, suc, sym, ap, ◌∙◌, subst, arith}
use Rattle.text_pos.specs.Lengths.{plus}
use Rattle.tree_defs.specs.Shape.{length_of, Fits}
use Rattle.tree_defs.proofs.Lengths.{plus_assoc}
use Rattle.node_reader.specs.Parts.{front}
use Rattle.node_reader.proofs.Orders.{fits_behind}
use Rattle.node_reader.proofs.Children.{front_behind, front_same}
use Rattle.node_reader.proofs.parts.from_part.Goals as goal

pub behind-offset-requires : goal.behind-offset-requires
behind-offset-requires c =
    let t = c.args.node.now in
    let n = c.loop-before.before - 1 in
    let len = length_of c.in-Some.part.now in
    let next : c.loop-before.before ≡ suc n = omega arith in
    let whole : plus (front n t) (plus len c.loop-before.offset) ≡ plus (front c.args.number t) c.args.rest =
    sym (plus_assoc (front n t) len c.loop-before.offset)
    ∙ ap (λ l. plus l c.loop-before.offset)
    (sym (front_behind t c.loop-before.before n c.in-Some.part.now next c.in-Some.ensures))
    ∙ c.loop-before.invariant in
    rw c.length.ensures.value (fits_behind (front n t) (plus len c.loop-before.offset)
    (subst (λ l. Fits l) (sym whole) c.requires))

pub loop-before-preserved-in-Some : goal.loop-before-preserved-in-Some
loop-before-preserved-in-Some c =
    let t = c.args.node.now in
    let n = c.loop-before.before - 1 in
    let len = length_of c.in-Some.part.now in
    let next : c.loop-before.before ≡ suc n = omega arith in
    ap (λ l. plus (front n t) l) (c.behind-offset.ensures ∙ ap (λ l. plus l c.loop-before.offset) c.length.ensures.value)
    ∙ sym (plus_assoc (front n t) len c.loop-before.offset)
    ∙ ap (λ l. plus l c.loop-before.offset)
    (sym (front_behind t c.loop-before.before n c.in-Some.part.now next c.in-Some.ensures))
    ∙ c.loop-before.invariant

pub loop-before-preserved : goal.loop-before-preserved
loop-before-preserved c =
    let n = c.loop-before.before - 1 in
    let next : c.loop-before.before ≡ suc n = omega arith in
    ap (λ l. plus l c.loop-before.offset)
    (sym (front_same c.args.node.now c.loop-before.before n next c.in_default.ensures))
    ∙ c.loop-before.invariant
