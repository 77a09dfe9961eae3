use Rattle.std.proofs.Common.{◌≡◌, ◌+◌, suc, sym, ap, ◌∙◌, arith}
use Rattle.bracket_ast.proofs.Sound.{low}
use Rattle.text_pos.specs.Lengths.{plus}
use Rattle.tree_defs.specs.Shape.{length_of}
use Rattle.tree_defs.proofs.Lengths.{plus_assoc}
use Rattle.node_reader.specs.Parts.{front}
use Rattle.node_reader.proofs.Children.{front_behind, front_same, lower}
use Rattle.node_reader.proofs.parts.part_at.Goals.{in-Some+else-less, in_default}
use Rattle.node_reader.proofs.parts.part_at.Goals as goal

pub returns-then-less : goal.returns-then-less
returns-then-less c = record {
  is = c.in-Some.ensures;
  lies = c.loop-number.invariant;
  within = rw (sym c.length-length-in-Some.ensures.value) (c.less.ensures.0 c.if-less.true);
  lower = lower c.args.node.now c.loop-number.number c.in-Some.part.now c.in-Some.ensures
      c.length-length.ensures.sound.even (low c.in-Some.part.now c.length-length-in-Some.ensures.sound);
}

pub loop-number-preserved : goal.loop-number-preserved
loop-number-preserved c =
    let t = c.args.node.now in
    let n = c.loop-number.number in
    let next : n + 1 ≡ suc n = omega arith in
    elim c.match-part.branch [
      | in-Some+else-less w ↦ let p = w.in-Some.part.now in
          ap (λ l. plus l c.match-part.rest) (front_behind t (n + 1) n p next w.in-Some.ensures)
          ∙ plus_assoc (front n t) (length_of p) c.match-part.rest
          ∙ ap (λ l. plus (front n t) (plus (length_of p) l)) w.rest-is
          ∙ ap (λ l. plus (front n t) (plus l w.minus-rest.result)) (sym w.length-length-in-Some.ensures.value)
          ∙ ap (λ l. plus (front n t) l) w.minus-rest.ensures.sum ∙ c.loop-number.invariant
      | in_default w ↦ ap (λ l. plus l c.match-part.rest) (front_same t (n + 1) n next w.in_default.ensures)
          ∙ ap (λ l. plus (front n t) l) w.rest-is ∙ c.loop-number.invariant
    ]
