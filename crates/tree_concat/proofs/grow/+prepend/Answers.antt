use Rattle.std.proofs.Common.{◌≡◌, List, ◌++◌, sym, ap, ◌∙◌}
use Rattle.std.proofs.Common.{subst, arith, append_assoc}
use Rattle.tree_defs.specs.Tree.{Tree}
use Rattle.tree_defs.specs.Shape.{leaves_of, RunsFit}
use Rattle.tree_concat.proofs.Children.{two_parts, three_parts}
use Rattle.tree_defs.proofs.Lengths.{front_runs}
use Rattle.tree_concat.proofs.grow.+prepend.Goals as goal

first_of_more : (t a x : Tree) (more : List Tree) → leaves_of t ≡ leaves_of x ++ more
    → RunsFit (leaves_of a ++ leaves_of t) → RunsFit (leaves_of a ++ leaves_of x)
first_of_more t a x more is fit = front_runs (leaves_of a ++ leaves_of x) more
    (subst (λ (l : List Tree). RunsFit l) (ap (λ l. leaves_of a ++ l) is
    ∙ sym (append_assoc (leaves_of a) (leaves_of x) more)) fit)

pub prepend-requires : goal.prepend-requires
prepend-requires t c =
    let p = two_parts c.args.b.now c.in-Two.x.now c.in-Two.y.now c.in-Two.ensures.parts c.in-Two.ensures.sound in (
      omega (arith, p.low, p.high),
      (
        omega (arith, p.low, p.high),
        first_of_more c.args.b.now c.args.a.now
            c.in-Two.x.now (leaves_of c.in-Two.y.now) p.leaves c.requires.fit,
      ),
    )

pub prepend-requires-in-Three : goal.prepend-requires-in-Three
prepend-requires-in-Three t c =
    let p = three_parts c.args.b.now c.in-Three.x.now c.in-Three.y.now c.in-Three.z.now c.in-Three.ensures.parts
    c.in-Three.ensures.sound in (
      omega (arith, p.low_c, p.high),
      (
        omega (arith, p.low_c, p.high),
        first_of_more c.args.b.now c.args.a.now
            c.in-Three.x.now (leaves_of c.in-Three.y.now ++ leaves_of c.in-Three.z.now) p.leaves c.requires.fit,
      ),
    )
