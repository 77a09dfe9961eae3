use Rattle.std.proofs.Common.{◌≡◌, take}
use Rattle.onig_parse.proofs.lower.copied_ids.Given as goal

abbrev pub invariant-loop-id : goal.invariant-loop-id
invariant-loop-id l = l.copied ≡ take l.id-index l.ids
