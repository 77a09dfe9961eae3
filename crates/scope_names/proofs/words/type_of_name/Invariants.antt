use Rattle.std.proofs.Common.{◌≡◌, drop}
use Rattle.scope_defs.specs.StandardType.{first_type, type_of_name}
use Rattle.scope_names.proofs.words.type_of_name.Given as goal

abbrev pub invariant-loop-at : goal.invariant-loop-at
invariant-loop-at l = first_type l.begins (drop l.at l.name) ≡ type_of_name l.name
