use Rattle.std.proofs.Common.{◌≡◌, ◌++◌, drop, filter, true}
use Rattle.std.specs.List.{list_all}
use Rattle.change_defs.specs.Agreement.{is_clear}
use Rattle.agreement_check.specs.Checks.{mark_fits}
use Rattle.agreement_check.proofs.clear.clear_marks.Given as goal

abbrev pub invariant-loop-mark : goal.invariant-loop-mark
invariant-loop-mark l = record {
  clear : l.all.items ++ filter (is_clear l.places) (drop l.mark-index l.marks) ≡ filter (is_clear l.places) l.marks;
  fit : list_all mark_fits l.all.items ≡ true;
}
