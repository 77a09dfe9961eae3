-- The machines of a table: those with its rules, which read the text of a pattern as patterns are read.
use Rattle.std.specs.Prelude.{◌≡◌, ℕ, unwrap_or, slice_get}
use Rattle.canonical_patterns.specs.ReadTrees.{read_tree}
use Rattle.rule_defs.specs.Rules.{Kind, no_rule}
use Rattle.rule_table.specs.Views.{Table}
use Rattle.line_defs.specs.Machine.{Machine}

pub record IsOf (table : Table) (machine : Machine) : Type 0 where
  pub rules : machine.rules ≡ table.rules
  pub reader : machine.reader ≡ read_tree

-- the kind of the rule with a number
abbrev pub kind_at : Table → ℕ → Kind
kind_at table number = (unwrap_or (slice_get table.rules number) no_rule).kind
