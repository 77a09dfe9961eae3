use Rattle.std.proofs.Common.{◌≡◌, length, take}
use Rattle.std.specs.Prelude.{All}
use Rattle.std.specs.Rc.{rc_value}
use Rattle.line_search.specs.Lists.{all_lists, AreListsOf}
use Rattle.line_search.proofs.searcher.Searcher.new.Given as goal

abbrev pub invariant-loop-id : goal.invariant-loop-id
invariant-loop-id l = record {
  lists : l.lists.items ≡ take l.id (all_lists (rc_value l.table).rules);
  fit : All (AreListsOf (length (rc_value l.table).rules) (rc_value l.table).groups) l.lists.items;
}
