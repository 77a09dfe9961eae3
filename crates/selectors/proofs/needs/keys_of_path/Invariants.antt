use Rattle.std.proofs.Common.{◌≡◌, ◌++◌, drop, map}
use Rattle.scope_names.specs.Keys.{key_of}
use Rattle.selectors.proofs.needs.keys_of_path.Given as goal

abbrev pub invariant-loop-name : goal.invariant-loop-name
invariant-loop-name l = l.keys ++ map key_of (drop l.name-index l.names) ≡ map key_of l.names
