use Rattle.std.proofs.Common.{◌≡◌, ◌++◌, drop}
use Rattle.line_output.specs.Taken.{takens_of}
use Rattle.line_output.proofs.taken.takens_of.Given as goal

-- what the entries so far take, and what those that are left take, is the whole
abbrev pub invariant-loop-entry : goal.invariant-loop-entry
invariant-loop-entry l =
    l.all.items ++ takens_of l.text l.work.hit (drop l.entry-index l.entry-items)
    ≡ takens_of l.text l.work.hit l.entries
