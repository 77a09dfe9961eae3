-- Which rules may stand in a table: those that name rules of it, with patterns of so many groups.
use Rattle.std.specs.Prelude.{ℕ, ◌<◌, ◌≤◌, List, length, All, IfSome}
use Rattle.scope_defs.specs.SelectorSyntax.{entries_of}
use Rattle.injection_defs.specs.Injections.{Listed}
use Rattle.rule_defs.specs.Rules.{Entry, Slot, Never, Read, Later, Rule}
use Rattle.rule_table.specs.declared.table.TheConstants.{MOST_RULES}
use Rattle.rule_table.specs.Views.{Table}

abbrev pub HasRoom : (groups : ℕ) → Slot → Type 0
HasRoom groups Never = Unit {0}
HasRoom groups (Read tree) = tree.groups ≤ groups
HasRoom groups (Later text most) = most ≤ groups

abbrev pub IsEntry : (count : ℕ) → Entry → Type 0
IsEntry count e = IfSome e.inner (λ id. id < count)

pub record IsRule (count groups : ℕ) (r : Rule) : Type 0 where
  pub start : HasRoom groups r.start
  pub finish : HasRoom groups r.finish
  pub start_captures : All (IsEntry count) r.start_captures
  pub finish_captures : All (IsEntry count) r.finish_captures
  pub active : All (λ id. id < count) r.active

abbrev pub AreRules : (count groups : ℕ) → List Rule → Type 0
AreRules count groups rules = All (IsRule count groups) rules

-- an entry of its selector, and one of so many rules
pub record IsInjection (count : ℕ) (i : Listed) : Type 0 where
  pub entry : i.entry < length (entries_of i.selector)
  pub rule : i.rule < count

pub record IsTable (t : Table) : Type 0 where
  pub some : 0 < length t.rules
  pub few : length t.rules ≤ MOST_RULES
  pub fit : AreRules (length t.rules) t.groups t.rules
  pub injections : All (IsInjection (length t.rules)) t.injections
