use Rattle.std.proofs.Common.{◌≡◌, ◌≤◌, length, take, reverse}
use Rattle.scope_defs.specs.Selectors.{path_holds}
use Rattle.selectors.proofs.FoundBack.{first_found}
use Rattle.selectors.proofs.paths.path_holds.Given as goal

abbrev pub invariant-loop-scope : goal.invariant-loop-scope
invariant-loop-scope l = record {
  within : l.left ≤ length l.names;
  found : first_found (reverse (take l.left l.names)) l.scope-iterator ≡ path_holds l.names l.scopes;
}
