use Rattle.std.proofs.Common.{◌≡◌, ◌++◌, drop, map}
use Rattle.rule_table.specs.Views.{listed_of}
use Rattle.line_search.specs.Prepared.{all_prepared}
use Rattle.line_search.specs.Asking.{prepared_of, AreReady}
use Rattle.line_search.proofs.injected.all_ready.Given as goal

-- those that are ready, and those that are left, are all
abbrev pub invariant-loop-injection : goal.invariant-loop-injection
invariant-loop-injection l = record {
  ready : AreReady l.table l.ready.items;
  all : map prepared_of l.ready.items
      ++ all_prepared l.table.rules (map listed_of (drop l.injection-index l.injection-items))
      ≡ all_prepared l.table.rules (map listed_of l.injection-items);
}
