use Rattle.onig_match.proofs.VisitSteps.{lead_group}
use Rattle.onig_match.proofs.area.Area.visit_group.Goals as goal

pub returns : goal.returns
returns c =
    rw (c.go.ensures, c.start_of.ensures, c.len.ensures.len, c.push.ensures)
    (lead_group c.args.on.now c.args.self.now c.args.group c.args.body c.args.rest c.args.at c.requires.here
    c.requires.node.1 c.requires.node.2)
