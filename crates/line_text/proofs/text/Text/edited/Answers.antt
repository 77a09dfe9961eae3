use Rattle.std.proofs.Common.{◌≡◌, rules}
use Rattle.text_defs.specs.Batch.{edited}
use Rattle.line_text.specs.Carried.{carried}
use Rattle.line_text.proofs.LeadingRuns.{LeadsFrom-carried}
use Rattle.line_text.proofs.text.Text.edited.Goals as goal

pub returns-clause-leads : goal.returns-clause-leads
returns-clause-leads c =
    let text : c.in_ok-text.text ≡ edited c.args.self.now c.args.edits.now = search rules in
    let runs : c.in_ok-carry.carry ≡ carried c.args.self.now c.args.edits.now = search rules in
    rw (text, runs) (LeadsFrom-carried c.args.self.now c.args.edits.now c.in_ok-check_edits.ensures.ok)
