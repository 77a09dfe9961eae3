use Rattle.std.proofs.Common.{arith}
use Rattle.onig_match.proofs.RunSteps.{visits_few, visits_exact, visits_spare}
use Rattle.onig_match.proofs.area.Area.visit_run.Goals as goal

pub returns-then-taken-bounds : goal.returns-then-taken-bounds
returns-then-taken-bounds c =
    rw (c.run_visits-more.ensures, c.is_most.ensures)
    (visits_few c.args.on.now c.args.self.now c.args.set.now c.args.body c.args.bounds.least c.args.bounds.most
    c.args.rest c.args.at c.run_length-taken.result c.requires.here c.requires.body c.requires.bounds
    c.run_length-taken.ensures.run c.run_length-taken.ensures.within c.if-taken-bounds.true)

pub returns-then-taken-bounds-2 : goal.returns-then-taken-bounds-2
returns-then-taken-bounds-2 c =
    rw (c.run_visits-more.ensures, c.is_most.ensures, c.go-step.ensures)
    (visits_exact c.args.on.now c.args.self.now c.args.set.now c.args.body c.args.bounds.least c.args.bounds.most
    c.args.rest c.args.at c.run_length-taken.result c.requires.here c.requires.body c.requires.bounds
    c.run_length-taken.ensures.run c.run_length-taken.ensures.within c.if-taken-bounds-2.true)

pub returns : goal.returns
returns c =
    rw (c.run_visits-more.ensures, c.is_most.ensures, c.go-step.ensures, c.enter.ensures)
    (visits_spare c.args.on.now c.args.self.now c.args.set.now c.args.body c.args.bounds.least c.args.bounds.most
    c.args.rest c.args.at c.run_length-taken.result c.requires.here c.requires.body c.requires.bounds
    c.run_length-taken.ensures.run c.run_length-taken.ensures.within
    (omega (arith, c.if-taken-bounds.false, c.if-taken-bounds-2.false)))
