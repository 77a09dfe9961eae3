use Rattle.std.proofs.Common.{◌≡◌, ◌<◌, ◌^◌, take}
use Rattle.syntax_defs.specs.Escapes.{hex_value}
use Rattle.onig_class.proofs.hex.hex_value.Given as goal

abbrev pub invariant-loop-c : goal.invariant-loop-c
invariant-loop-c l = (l.value ≡ hex_value (take l.c-index l.digits)) × (l.value < 16 ^ l.c-index)
