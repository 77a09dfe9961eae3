use Rattle.std.proofs.Common.{◌≡◌, drop, fold}
use Rattle.scope_names.specs.Keys.{with_name}
use Rattle.scope_names.proofs.scopes.keys_with.Given as goal

abbrev pub invariant-loop-name : goal.invariant-loop-name
invariant-loop-name l =
    fold with_name l.all (drop l.name-index l.names)
    ≡ fold with_name l.fn.keys l.names
