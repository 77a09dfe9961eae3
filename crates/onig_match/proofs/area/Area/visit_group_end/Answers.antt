use Rattle.onig_match.proofs.VisitSteps.{lead_taken}
use Rattle.onig_match.proofs.area.Area.visit_group_end.Goals as goal

pub returns : goal.returns
returns c =
    rw c.go.ensures
    (lead_taken c.args.on.now c.args.self.now c.take.new.self c.args.group c.args.from c.args.rest c.args.at
    c.requires.here c.requires.group c.requires.from c.take.ensures)
