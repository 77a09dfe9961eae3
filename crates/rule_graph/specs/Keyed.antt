-- The keys of injections that are selectors, and what they inject.
use Rattle.std.specs.Prelude.{ℕ, List, [], ◌∷◌, ◌++◌}
use Rattle.std.specs.Rc.{rc_value}
use Rattle.scope_defs.specs.SelectorSyntax.{entry_at}
use Rattle.injection_defs.specs.Injections.{Listed}
use Rattle.graph_defs.specs.ListedInjections.{key_entries}
use Rattle.rule_graph.specs.declared.injections.Key.{Key}

abbrev pub entry_of_key : Key → ℕ → Listed
entry_of_key key entry = record {
  priority = (entry_at (rc_value key.selector) entry).priority;
  selector = rc_value key.selector;
  entry = entry;
  rule = key.rule.0;
}

abbrev pub entries_of_key : Key → List Listed
entries_of_key key = key_entries (rc_value key.selector) key.rule.0

abbrev pub listed_keys : List Key → List Listed
listed_keys [] = []
listed_keys (key ∷ keys) = entries_of_key key ++ listed_keys keys
