use Rattle.std.proofs.Common.{◌≡◌, ◌++◌, drop, map}
use Rattle.change_defs.specs.Changes.{turned}
use Rattle.agreement_check.proofs.laid.all_turned.Given as goal

abbrev pub invariant-loop-place : goal.invariant-loop-place
invariant-loop-place l = l.back.items ++ map turned (drop l.place-index l.places) ≡ map turned l.places
