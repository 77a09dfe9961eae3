use Rattle.onig_match.proofs.VisitSteps.{lead_ahead}
use Rattle.onig_match.proofs.area.Area.visit_ahead.Goals as goal

pub returns : goal.returns
returns c =
    rw (c.enter.ensures, c.go.ensures, c.start_of.ensures)
    (lead_ahead c.args.on.now c.args.self.now c.args.body c.args.wanted c.args.rest c.args.at c.requires.here
    c.requires.body)
