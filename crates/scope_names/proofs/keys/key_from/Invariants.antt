use Rattle.std.proofs.Common.{◌≡◌, drop}
use Rattle.scope_names.specs.declared.numbers.TheConstants.{SEED}
use Rattle.scope_names.specs.Keys.{key_from}
use Rattle.scope_names.proofs.keys.key_from.Given as goal

abbrev pub invariant-loop-c : goal.invariant-loop-c
invariant-loop-c l = key_from l.number l.dotted (drop l.c-index l.name) ≡ key_from SEED l.met l.name
