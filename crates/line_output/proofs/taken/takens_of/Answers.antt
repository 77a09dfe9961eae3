use Rattle.std.proofs.Common.{◌∙◌}
use Rattle.line_output.proofs.TakenLists.{takens_of-more}
use Rattle.line_output.proofs.taken.takens_of.Goals as goal

pub loop-entry-preserved : goal.loop-entry-preserved
loop-entry-preserved c =
    takens_of-more _ _ c.loop-entry.all.items _ c.as_slice-entry-items.result.now c.loop-entry.entry-index
    c.entry-item.result c.loop-entry-test.true c.entry-item.is c.in_ok-add_taken.ensures ∙ c.loop-entry.invariant
