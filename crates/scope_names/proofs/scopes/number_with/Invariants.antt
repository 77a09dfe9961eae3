use Rattle.std.proofs.Common.{◌≡◌, drop, fold}
use Rattle.scope_names.specs.Numbers.{mixed, name_number}
use Rattle.scope_names.proofs.scopes.number_with.Given as goal

abbrev pub invariant-loop-name : goal.invariant-loop-name
invariant-loop-name l =
    fold (λ before name. mixed before (name_number name)) l.all (drop l.name-index l.names)
    ≡ fold (λ before name. mixed before (name_number name)) l.number l.names
