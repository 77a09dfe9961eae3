use Rattle.std.proofs.Common.{◌≡◌, drop}
use Rattle.selectors.specs.Machine.{read_on, read_kept}
use Rattle.selectors.proofs.reader.read_signs.Given as goal

abbrev pub invariant-loop-at : goal.invariant-loop-at
invariant-loop-at l = read_on (drop l.at l.text) l.reader l.at ≡ read_kept l.text
