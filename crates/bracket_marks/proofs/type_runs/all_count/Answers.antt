use Rattle.std.proofs.Common.{◌∙◌, sym}
use Rattle.pairing_defs.specs.Marks.{counts_by}
use Rattle.bracket_marks.proofs.RunColumns.{all_count-more}
use Rattle.bracket_marks.proofs.type_runs.all_count.Goals as goal

pub loop-n-preserved : goal.loop-n-preserved
loop-n-preserved c =
    all_count-more (counts_by c.args.types.now) c.args.column c.args.many c.loop-n.n c.loop-n-test.true
    (sym c.if-not-counts.ensures) ∙ c.loop-n.invariant
