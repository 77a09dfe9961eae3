use Rattle.std.proofs.Common.{◌≡◌, take, true}
use Rattle.change_defs.specs.Changes.{first_joint, last_joint, placed, are_in_order}
use Rattle.agreement_check.proofs.laid.places_of.Given as goal

abbrev pub invariant-loop-change : goal.invariant-loop-change
invariant-loop-change l = record {
  spans : l.spans ≡ take l.change-index l.changes;
  places : l.places.items ≡ placed l.spans;
  joint : l.joint ≡ last_joint first_joint l.spans;
  order : are_in_order l.spans ≡ true;
}
