-- What is known of a searcher's parts.
use Rattle.std.specs.Prelude.{◌≡◌, length, All}
use Rattle.std.specs.Rc.{rc_value}
use Rattle.rule_table.specs.Views.{Table}
use Rattle.line_search.specs.Lists.{all_lists, AreListsOf}
use Rattle.line_search.specs.Prepared.{all_prepared, ArePrepared}
use Rattle.line_search.specs.declared.searcher.Searcher.TheInside.{Inside}

abbrev pub table_of : Inside → Table
table_of s = rc_value s.table

-- the lists are those of the rules, and the injections those of the table, in the table's bounds
pub record IsSearcher (s : Inside) : Type 0 where
  pub lists : s.lists.items ≡ all_lists (rc_value s.table).rules
  pub fit : All (AreListsOf (length (rc_value s.table).rules) (rc_value s.table).groups) s.lists.items
  pub injected : s.injected ≡ all_prepared (rc_value s.table).rules (rc_value s.table).injections
  pub injected_fit : ArePrepared (length (rc_value s.table).rules) (rc_value s.table).groups s.injected
