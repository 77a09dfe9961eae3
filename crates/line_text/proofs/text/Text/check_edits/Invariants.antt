use Rattle.std.proofs.Common.{◌≡◌, None, drop}
use Rattle.text_defs.specs.Batch.{edit_fault}
use Rattle.line_text.proofs.text.Text.check_edits.Given as goal

-- no edit before this one is at fault
abbrev pub invariant-loop-index : goal.invariant-loop-index
invariant-loop-index l = edit_fault l.self None 0 l.edits ≡ edit_fault l.self l.end l.index (drop l.index l.edits)
