use Rattle.std.proofs.Common.{refl}
use Rattle.text_defs.specs.Text.{norm}
use Rattle.line_text.proofs.ValidBatches.{AtSpan, at_span, edit_fault-origin, holds-origin, built_step}
use Rattle.line_text.proofs.text.Text.draft_after.Goals as goal

pub loop-edit-init : goal.loop-edit-init
loop-edit-init c = record {
  there = holds-origin c.args.self.now;
  valid = edit_fault-origin c.args.self.now 0 c.args.edits.now c.requires;
  built = rw c.new-draft.ensures refl;
}

pub loop-edit-preserved : goal.loop-edit-preserved
loop-edit-preserved c =
    let here : AtSpan c.args.self.now c.loop-edit.at c.args.edits.now c.loop-edit.edit-index c.span-span.result
    c.edit-item.result.text =
    at_span c.args.self.now c.loop-edit.at c.args.edits.now c.loop-edit.edit-index c.edit-item.result
    c.span-span.result c.loop-edit.invariant.valid c.loop-edit-test.true c.edit-item.is c.span-span.ensures in
    record {
      there = here.to;
      valid = here.later;
      built = built_step c.loop-edit.draft c.copy_between.new.draft c.put_text.new.self _
          (norm c.edit-item.result.text) _ _ _ c.in_ok-copy_between.ensures
          (rw c.text.ensures at c.in_ok-put_text.ensures) here.replaces c.loop-edit.invariant.built;
    }
