use Rattle.std.proofs.Common.{◌≡◌, ◌<◌, List, [], ◌∷◌, length, refl, sym}
use Rattle.std.proofs.Common.{ap, ◌∙◌, arith}
use Rattle.tree_defs.specs.Tree.{Tree}
use Rattle.tree_defs.specs.Shape.{height}
use Rattle.tree_concat.specs.Joined.{first_height}
use Rattle.std.proofs.Common.{add-one, get_or}
use Rattle.tree_concat.proofs.Children.{high_more, high_front}
use Rattle.tree_concat.proofs.joining.first_run.Goals as goal

first_is : (ts : List Tree) (d : Tree) → 0 < length ts → height (get_or ts 0 d) ≡ first_height ts
first_is [] d some = absurd (omega arith)
first_is (t ∷ ts) d some = refl

pub loop-n-preserved : goal.loop-n-preserved
loop-n-preserved c = record {
  some = omega arith;
  within = omega arith;
  high =
      let some : 0 < length c.args.nodes.now = omega arith in
      let here : height (get_or c.args.nodes.now c.loop-n.n c.index-nodes-n.result) ≡ first_height c.args.nodes.now =
      ap height (sym c.index-nodes-n.is) ∙ sym c.height.ensures.value ∙ c.if-height.true
      ∙ c.height-in-loop-n.ensures.value
      ∙ ap height c.index-nodes-0.is ∙ first_is c.args.nodes.now c.index-nodes-0.result some in
      rw add-one (high_more (first_height c.args.nodes.now) c.loop-n.n c.args.nodes.now c.index-nodes-n.result
      (omega arith) c.loop-n.invariant.high here);
}

pub returns-clause-high : goal.returns-clause-high
returns-clause-high c = high_front c.loop-n.n c.args.nodes.now c.loop-n.invariant.some c.loop-n.invariant.high
