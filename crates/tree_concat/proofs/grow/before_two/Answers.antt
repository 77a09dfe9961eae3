use Rattle.std.proofs.Common.{[], ◌++◌, Option, sym}
use Rattle.std.proofs.Common.{subst, append_assoc}
use Rattle.tree_defs.specs.Tree.{Tree}
use Rattle.tree_defs.specs.Shape.{leaves_of, RunsFit}
use Rattle.tree_concat.specs.Joined.{some_leaves}
use Rattle.tree_defs.proofs.Lengths.{runs_of, back_runs}
use Rattle.tree_concat.proofs.grow.before_two.Goals as goal

pub two-requires-clause-fit : goal.two-requires-clause-fit
two-requires-clause-fit c =
    let fit = subst (λ (o : Option Tree). RunsFit
    (leaves_of c.args.grown.first ++ (some_leaves o ++ (leaves_of c.args.x.now ++ leaves_of c.args.y.now))))
    c.in-Some.is c.requires.fit in
    runs_of [] (leaves_of c.args.grown.first ++ leaves_of c.in-Some.second)
    (leaves_of c.args.x.now ++ leaves_of c.args.y.now) _
    (sym (append_assoc (leaves_of c.args.grown.first) (leaves_of c.in-Some.second)
    (leaves_of c.args.x.now ++ leaves_of c.args.y.now))) fit

pub two-requires-in-Some-clause-fit : goal.two-requires-in-Some-clause-fit
two-requires-in-Some-clause-fit c = back_runs (some_leaves c.args.grown.second) _
    (back_runs (leaves_of c.args.grown.first) _ c.requires.fit)
