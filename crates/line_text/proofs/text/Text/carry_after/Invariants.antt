use Rattle.std.proofs.Common.{◌≡◌, ◌++◌, drop}
use Rattle.text_defs.specs.Text.{line_count}
use Rattle.text_defs.specs.Batch.{edited}
use Rattle.line_text.proofs.CarriedRuns.{gaps, IsAtGap}
use Rattle.line_text.proofs.text.Text.carry_after.Given as goal

-- the runs so far, and those that are still to come
abbrev pub invariant-loop-edit : goal.invariant-loop-edit
invariant-loop-edit l = record {
  gap : IsAtGap l.self (line_count (edited l.self l.edits)) (drop l.edit-index l.edits) l.old l.new;
  listed : l.carry ++ gaps (line_count l.self) l.old l.new (drop l.edit-index l.edits)
      ≡ gaps (line_count l.self) 0 0 l.edits;
}
