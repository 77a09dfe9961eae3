use Rattle.std.proofs.Common.{refl}
use Rattle.document.proofs.RowLevels.{summary_by}
use Rattle.document.proofs.summary.summary_of.Goals as goal

pub returns : goal.returns
returns c =
    summary_by c.args.rows.now _ c.args.lines _ _ _ c.rows-rows.ensures.rows refl c.bad_rows.ensures c.deepest.ensures
