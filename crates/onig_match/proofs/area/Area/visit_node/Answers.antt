use Rattle.std.proofs.Common.{length}
use Rattle.onig_match.proofs.Steps.{AreTaken-get}
use Rattle.onig_match.proofs.NodeSteps.{lead_one, lead_anchor, lead_back}
use Rattle.onig_match.proofs.area.Area.visit_node.Goals as goal

pub steps_back-requires-clause-taken : goal.steps_back-requires-clause-taken
steps_back-requires-clause-taken c =
    AreTaken-get (length c.args.on.now.text.now) c.args.self.now.captures.items c.in-Back.number c.get.result
    c.requires.here.sound.captures c.get.ensures

pub returns-in-One : goal.returns-in-One
returns-in-One c =
    rw (c.visit_one.ensures, c.after_node-rest.ensures)
    (lead_one c.args.on.now c.args.self.now c.args.node.now c.args.here c.args.at c.in-One.set c.requires.here
    c.in-One.is)

pub returns-in-At : goal.returns-in-At
returns-in-At c =
    rw (c.visit_anchor.ensures, c.after_node-rest.ensures)
    (lead_anchor c.args.on.now c.args.self.now c.args.node.now c.args.here c.args.at c.in-At.anchor
    c.requires.here c.in-At.is)

pub returns-in-Back : goal.returns-in-Back
returns-in-Back c =
    rw (c.steps_back.ensures, c.after_node-rest.ensures)
    (lead_back c.args.on.now c.args.self.now c.args.node.now c.args.here c.args.at c.in-Back.number c.in-Back.fold
    c.get.result c.requires.here c.in-Back.is c.get.ensures
    (AreTaken-get (length c.args.on.now.text.now) c.args.self.now.captures.items c.in-Back.number c.get.result
    c.requires.here.sound.captures c.get.ensures))
