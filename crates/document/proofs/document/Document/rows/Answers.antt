use Rattle.document.specs.Settings.{settings_by}
use Rattle.document.proofs.RowLevels.{IfOk-levels}
use Rattle.document.proofs.document.Document.rows.Goals as goal

pub returns-clause-levels : goal.returns-clause-levels
returns-clause-levels g c =
    IfOk-levels c.paired_on.result
    (settings_by (g.R.LineRuns.told c.args.self.now.machine) c.args.self.now.texts c.args.self.now.limits)
    c.args.self.now.text c.paired_on.ensures.rows
