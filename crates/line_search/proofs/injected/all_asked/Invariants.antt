use Rattle.std.proofs.Common.{◌≡◌, [], length, map}
use Rattle.std.specs.Prelude.{All}
use Rattle.std.specs.Rc.{rc_value}
use Rattle.line_search.specs.Prepared.{holding}
use Rattle.line_search.specs.Asking.{prepared_of, IsAsked}
use Rattle.line_search.proofs.injected.all_asked.Given as goal

abbrev pub invariant-loop : goal.invariant-loop
invariant-loop l = record {
  numbers : rc_value l.numbers ≡ holding [] 0 (map prepared_of l.ready);
  count : length l.asked.items ≡ l.counter;
  asked : All (IsAsked (map prepared_of l.ready)) l.asked.items;
}
