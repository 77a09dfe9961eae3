use Rattle.std.proofs.Common.{◌++◌, Option}
use Rattle.std.proofs.Common.{subst}
use Rattle.tree_defs.specs.Tree.{Tree}
use Rattle.tree_defs.specs.Shape.{leaves_of, RunsFit}
use Rattle.tree_concat.specs.Joined.{some_leaves}
use Rattle.tree_defs.proofs.Lengths.{back_runs}
use Rattle.tree_concat.proofs.grow.behind_two.Goals as goal

pub two-requires-in-Some-clause-fit : goal.two-requires-in-Some-clause-fit
two-requires-in-Some-clause-fit c =
    let fit = subst (λ (o : Option Tree). RunsFit
    (leaves_of c.args.x.now ++ (leaves_of c.args.y.now ++ (leaves_of c.args.grown.first ++ some_leaves o))))
    c.in-Some.is c.requires.fit in
    back_runs (leaves_of c.args.y.now) _ (back_runs (leaves_of c.args.x.now) _ fit)
