use Rattle.std.proofs.Common.{◌≡◌, drop, fold}
use Rattle.scope_names.specs.Numbers.{mixed, name_number}
use Rattle.scope_names.proofs.numbers.name_number.Given as goal

abbrev pub invariant-loop-c : goal.invariant-loop-c
invariant-loop-c l = fold mixed l.number (drop l.c-index l.name) ≡ name_number l.name
