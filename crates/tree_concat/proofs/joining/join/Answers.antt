use Rattle.std.proofs.Common.{◌≡◌, List, ◌++◌, sym}
use Rattle.std.proofs.Common.{ap, ◌∙◌, subst, append_assoc}
use Rattle.tree_defs.specs.Tree.{Tree}
use Rattle.tree_defs.specs.Shape.{all_leaves, RunsFit}
use Rattle.tree_concat.specs.Joined.{some_leaves}
use Rattle.tree_defs.proofs.Lengths.{runs_of, front_runs}
use Rattle.tree_concat.proofs.Children.{leaves_append}
use Rattle.tree_concat.proofs.joining.join.Goals as goal

-- the next run behind what is joined
next_run : (done : List Tree) (rest all run more : List Tree) → done ++ all_leaves rest ≡ all_leaves all → rest
    ≡ run ++ more → done ++ (all_leaves run ++ all_leaves more) ≡ all_leaves all
next_run done rest all run more are is =
    ap (λ l. done ++ l) (sym (leaves_append run more) ∙ sym (ap all_leaves is)) ∙ are

pub raise-requires-clause-fit : goal.raise-requires-clause-fit
raise-requires-clause-fit c =
    let run = c.first_run.result.0.now in let more = c.first_run.result.1.now in
    runs_of (some_leaves c.loop-rest.root) (all_leaves run) (all_leaves more) (all_leaves c.args.items.now)
    (sym (next_run (some_leaves c.loop-rest.root) c.loop-rest.rest.now c.args.items.now run more
    c.loop-rest.invariant c.first_run.ensures.parts)) c.requires

pub behind-requires : goal.behind-requires
behind-requires c =
    let run = c.first_run.result.0.now in let more = c.first_run.result.1.now in
    rw c.in_ok-next.ensures (front_runs (some_leaves c.loop-rest.root ++ all_leaves run) (all_leaves more)
    (subst (λ (l : List Tree). RunsFit l)
    (sym (append_assoc (some_leaves c.loop-rest.root) (all_leaves run) (all_leaves more)
    ∙ next_run (some_leaves c.loop-rest.root) c.loop-rest.rest.now c.args.items.now run more
    c.loop-rest.invariant c.first_run.ensures.parts)) c.requires))

pub loop-rest-preserved : goal.loop-rest-preserved
loop-rest-preserved c =
    let run = c.first_run.result.0.now in let more = c.first_run.result.1.now in
    ap (λ l. l ++ all_leaves more) (c.in_ok-behind.ensures
    ∙ ap (λ l. some_leaves c.loop-rest.root ++ l) c.in_ok-next.ensures)
    ∙ append_assoc (some_leaves c.loop-rest.root) (all_leaves run) (all_leaves more)
    ∙ next_run (some_leaves c.loop-rest.root) c.loop-rest.rest.now c.args.items.now run more c.loop-rest.invariant
    c.first_run.ensures.parts
