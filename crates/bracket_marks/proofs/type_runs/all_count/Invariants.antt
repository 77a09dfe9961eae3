use Rattle.std.proofs.Common.{◌≡◌, ◌+◌, ◌-◌}
use Rattle.pairing_defs.specs.Marks.{all_count, counts_by}
use Rattle.bracket_marks.proofs.type_runs.all_count.Given as goal

-- the columns so far count, so those that are left decide
abbrev pub invariant-loop-n : goal.invariant-loop-n
invariant-loop-n l = all_count (counts_by l.types) (l.column + l.n) (l.many - l.n)
    ≡ all_count (counts_by l.types) l.column l.many
