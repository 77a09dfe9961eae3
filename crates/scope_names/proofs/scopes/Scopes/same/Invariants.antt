use Rattle.std.proofs.Common.{◌≡◌, length}
use Rattle.scope_names.proofs.scopes.Scopes.same.Given as goal

abbrev pub invariant-loop-name : goal.invariant-loop-name
invariant-loop-name l = record {
  alike : length l.names ≡ length l.others;
  forth : l.names ≡ l.others → l.self ≡ l.other;
  back : l.self ≡ l.other → l.names ≡ l.others;
}
