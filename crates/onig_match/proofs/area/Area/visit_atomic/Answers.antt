use Rattle.onig_match.proofs.VisitSteps.{lead_atomic}
use Rattle.onig_match.proofs.area.Area.visit_atomic.Goals as goal

pub returns : goal.returns
returns c =
    rw (c.enter.ensures, c.go.ensures, c.start_of.ensures)
    (lead_atomic c.args.on.now c.args.self.now c.args.body c.args.rest c.args.at c.requires.here c.requires.body)
