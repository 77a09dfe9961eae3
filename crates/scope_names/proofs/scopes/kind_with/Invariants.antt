use Rattle.std.proofs.Common.{◌≡◌, drop}
use Rattle.std.specs.List.{filter_map}
use Rattle.scope_defs.specs.StandardType.{type_of_name, last_or}
use Rattle.scope_names.proofs.scopes.kind_with.Given as goal

abbrev pub invariant-loop-name : goal.invariant-loop-name
invariant-loop-name l = last_or l.last (filter_map type_of_name (drop l.name-index l.names))
    ≡ last_or l.fn.kind (filter_map type_of_name l.names)
