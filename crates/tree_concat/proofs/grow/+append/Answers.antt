use Rattle.std.proofs.Common.{List, ◌++◌, ap, ◌∙◌}
use Rattle.std.proofs.Common.{subst, arith, append_assoc}
use Rattle.tree_defs.specs.Tree.{Tree}
use Rattle.tree_defs.specs.Shape.{leaves_of, RunsFit}
use Rattle.tree_concat.proofs.Children.{TwoParts, ThreeParts, two_parts, three_parts}
use Rattle.tree_defs.proofs.Lengths.{back_runs}
use Rattle.tree_concat.proofs.grow.+append.Goals as goal

last_of_two : (t b x y : Tree) → TwoParts t x y → RunsFit (leaves_of t ++ leaves_of b)
    → RunsFit (leaves_of y ++ leaves_of b)
last_of_two t b x y p fit = back_runs (leaves_of x) (leaves_of y ++ leaves_of b)
    (subst (λ (l : List Tree). RunsFit l) (ap (λ l. l ++ leaves_of b) p.leaves
    ∙ append_assoc (leaves_of x) (leaves_of y) (leaves_of b)) fit)

last_of_three : (t b x y z : Tree) → ThreeParts t x y z → RunsFit (leaves_of t ++ leaves_of b)
    → RunsFit (leaves_of z ++ leaves_of b)
last_of_three t b x y z p fit = back_runs (leaves_of y) (leaves_of z ++ leaves_of b)
    (back_runs (leaves_of x) (leaves_of y ++ (leaves_of z ++ leaves_of b))
    (subst (λ (l : List Tree). RunsFit l)
    (ap (λ l. l ++ leaves_of b) p.leaves ∙ append_assoc (leaves_of x) (leaves_of y ++ leaves_of z) (leaves_of b)
    ∙ ap (λ l. leaves_of x ++ l) (append_assoc (leaves_of y) (leaves_of z) (leaves_of b))) fit))

pub append-requires : goal.append-requires
append-requires t c =
    let p = two_parts c.args.a.now c.in-Two.x.now c.in-Two.y.now c.in-Two.ensures.parts c.in-Two.ensures.sound in (
      omega (arith, p.low, p.high),
      (
        omega (arith, p.low, p.high),
        last_of_two c.args.a.now c.args.b.now c.in-Two.x.now
            c.in-Two.y.now p c.requires.fit,
      ),
    )

pub append-requires-in-Three : goal.append-requires-in-Three
append-requires-in-Three t c =
    let p = three_parts c.args.a.now c.in-Three.x.now c.in-Three.y.now c.in-Three.z.now c.in-Three.ensures.parts
    c.in-Three.ensures.sound in (
      omega (arith, p.low_c, p.high),
      (
        omega (arith, p.low_c, p.high),
        last_of_three c.args.a.now c.args.b.now
            c.in-Three.x.now c.in-Three.y.now c.in-Three.z.now p c.requires.fit,
      ),
    )
