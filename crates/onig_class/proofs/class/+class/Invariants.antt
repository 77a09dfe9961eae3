use Rattle.std.proofs.Common.{true, ◌≤◌, ◌+◌, ◌-◌, ◌*◌, length, drop}
use Rattle.syntax_defs.specs.Classes.{no_members, members_at, class_within}
use Rattle.onig_class.proofs.ClassLemmas.{Going}
use Rattle.onig_class.proofs.class.+class.Given as goal

abbrev pub decreases-class_within : goal.decreases-class_within
decreases-class_within l = l.levels * 2

abbrev pub decreases-members : goal.decreases-members
decreases-members l = l.levels * 2 + 1

abbrev pub invariant-members-loop-sides : goal.invariant-members-loop-sides
invariant-members-loop-sides l = record {
  begun : l.fn.start ≤ l.at;
  within : l.at ≤ length l.text;
  going : Going (class_within l.levels l.fold) l.fold l.text l.sides l.at l.first
      (members_at (class_within l.levels l.fold) l.fold true (length (drop l.fn.from l.text)) no_members l.fn.start
      (drop l.fn.start l.text));
}

abbrev pub decreases-members-loop-sides : goal.decreases-members-loop-sides
decreases-members-loop-sides l = length l.text - l.at
