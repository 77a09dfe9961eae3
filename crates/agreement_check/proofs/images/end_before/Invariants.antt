use Rattle.std.proofs.Common.{◌≡◌, drop}
use Rattle.change_defs.specs.Changes.{first_joint, end_before}
use Rattle.agreement_check.proofs.images.end_before.Given as goal

abbrev pub invariant-loop-place : goal.invariant-loop-place
invariant-loop-place l = end_before l.joint (drop l.place-index l.places) l.at ≡ end_before first_joint l.places l.at
