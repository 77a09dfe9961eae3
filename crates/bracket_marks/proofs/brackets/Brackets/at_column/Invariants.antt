use Rattle.std.proofs.Common.{◌≡◌, take}
use Rattle.std.specs.List.{filter}
use Rattle.std.specs.Option.{option_copied}
use Rattle.pairing_defs.specs.Marks.{counts_by, stands_at, longest}
use Rattle.bracket_marks.proofs.brackets.Brackets.at_column.Given as goal

abbrev pub invariant-loop-b : goal.invariant-loop-b
invariant-loop-b l = option_copied l.longest
    ≡ longest (filter (stands_at (counts_by l.types) l.line l.column) (take l.b-index l.b-items))
