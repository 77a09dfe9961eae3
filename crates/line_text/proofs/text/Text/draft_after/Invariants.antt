use Rattle.std.proofs.Common.{◌≡◌, ◌++◌, true, Some, None, drop}
use Rattle.text_defs.specs.Place.{holds, offset_of}
use Rattle.text_defs.specs.Batch.{edit_fault, replaced, edited}
use Rattle.line_text.proofs.text.Text.draft_after.Given as goal

-- what is built, and what the rest of the batch makes of the rest of the text
abbrev pub invariant-loop-edit : goal.invariant-loop-edit
invariant-loop-edit l = record {
  there : holds l.self l.at ≡ true;
  valid : edit_fault l.self (Some l.at) 0 (drop l.edit-index l.edits) ≡ None;
  built : l.draft ++ replaced l.self (offset_of l.self l.at) (drop l.edit-index l.edits) ≡ edited l.self l.edits;
}
