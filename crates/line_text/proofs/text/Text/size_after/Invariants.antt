use Rattle.std.proofs.Common.{◌≡◌, ◌+◌, take}
use Rattle.std.specs.Prelude.{sum_by}
use Rattle.text_defs.specs.Text.{lines_of, line_count}
use Rattle.text_defs.specs.Batch.{counted}
use Rattle.std.proofs.Common.{length}
use Rattle.line_text.proofs.ValidBatches.{removed, removed_lines, added, added_lines}
use Rattle.line_text.proofs.text.Text.size_after.Given as goal

-- what the edits so far leave and what they add
abbrev pub invariant-loop-edit : goal.invariant-loop-edit
invariant-loop-edit l = record {
  chars_kept : l.kept_chars + sum_by (removed (lines_of l.self)) (take l.edit-index l.edits) ≡ length l.self;
  lines_kept : l.kept_lines + sum_by removed_lines (take l.edit-index l.edits) ≡ line_count l.self;
  chars_added : l.added_chars ≡ counted (sum_by added (take l.edit-index l.edits));
  lines_added : l.added_lines ≡ counted (sum_by added_lines (take l.edit-index l.edits));
}
