use Rattle.std.proofs.Common.{◌≡◌, ◌+◌, ◌<◌, length, take, slice_get}
use Rattle.scope_names.proofs.scopes.front_with.Given as goal

abbrev pub invariant-loop-at : goal.invariant-loop-at
invariant-loop-at l = record {
  within : l.n < length l.at;
  name : slice_get l.at l.n ≡ slice_get l.scopes l.n;
  front : take (l.n + 1) l.at ≡ take (l.n + 1) l.scopes;
}
