use Rattle.onig_match.specs.declared.cells.Cell.TheVariants.{Nodes}
use Rattle.onig_match.proofs.Steps.{AddsCell-new}
use Rattle.onig_match.proofs.area.Area.behind.Goals as goal

pub returns-clause-adds : goal.returns-clause-adds
returns-clause-adds c = AddsCell-new c.args.on.now c.args.self.now (Nodes c.args.rest) c.push.new.self
    c.requires.sound c.requires.rest c.push.ensures
