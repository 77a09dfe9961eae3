use Rattle.std.proofs.Common.{◌≡◌, drop}
use Rattle.change_defs.specs.Changes.{first_joint}
use Rattle.agreement_check.specs.Checks.{places_keep}
use Rattle.agreement_check.proofs.kept.places_keep.Given as goal

abbrev pub invariant-loop-place : goal.invariant-loop-place
invariant-loop-place l = places_keep l.joint l.old l.new (drop l.place-index l.places)
    ≡ places_keep first_joint l.old l.new l.places
