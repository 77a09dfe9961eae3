-- How the rules of a table stand for the rules of a run.
use Rattle.std.specs.Prelude.{ℕ, List, map, option_map}
use Rattle.std.specs.Rc.{rc_value}
use Rattle.canonical_patterns.specs.Canonical.{canonical}
use Rattle.injection_defs.specs.Injections.{Listed}
use Rattle.rule_defs.specs.Rules.{Kind, Entry, Slot, Rule}
use Rattle.rule_defs.specs.Rules.{Match as MatchRule, BeginEnd as BeginEndRule, BeginWhile as BeginWhileRule}
use Rattle.rule_defs.specs.Rules.{Group as GroupRule, Never as NeverSlot, Read as ReadSlot, Later as LaterSlot}
use Rattle.rule_table.specs.declared.rule.RuleKind.{RuleKind}
use Rattle.rule_table.specs.declared.rule.RuleKind.TheVariants.{Match, BeginEnd, BeginWhile, Group}
use Rattle.rule_table.specs.declared.rule.Slot.{Slot as RuleSlot}
use Rattle.rule_table.specs.declared.rule.Slot.TheVariants.{Never, Read, Later}
use Rattle.rule_table.specs.declared.rule.RuleCapture.{RuleCapture}
use Rattle.rule_table.specs.declared.rule.Rule.{Rule as TableRule}
use Rattle.rule_table.specs.declared.injection.Injection.{Injection}
use Rattle.rule_table.specs.declared.table.RuleTable.TheInside.{Inside}

abbrev pub kind_of : RuleKind → Kind
kind_of Match = MatchRule
kind_of BeginEnd = BeginEndRule
kind_of BeginWhile = BeginWhileRule
kind_of Group = GroupRule

-- patterns that differ only in how their sets are kept are one and the same to a run
abbrev pub slot_of : RuleSlot → Slot
slot_of Never = NeverSlot
slot_of (Read pattern) = ReadSlot (canonical pattern.value)
slot_of (Later text groups) = LaterSlot text groups

abbrev pub entry_of : RuleCapture → Entry
entry_of c = record {
  number = c.number;
  name = c.name;
  content = c.content;
  inner = option_map (λ id. id.0) c.inner;
}

abbrev pub rule_of : TableRule → Rule
rule_of r = record {
  kind = kind_of r.kind;
  name = r.name;
  content = r.content;
  start = slot_of r.start;
  finish = slot_of r.finish;
  finish_last = r.finish_last;
  start_captures = map entry_of r.start_captures;
  finish_captures = map entry_of r.finish_captures;
  active = map (λ id. id.0) r.active;
}

abbrev pub listed_of : Injection → Listed
listed_of i = record { priority = i.priority; selector = rc_value i.selector; entry = i.entry; rule = i.rule.0 }

-- rules by their numbers, injections in order, and the most groups of a pattern
pub record Table : Type 0 where
  pub rules : List Rule
  pub injections : List Listed
  pub groups : ℕ

abbrev pub table_of : Inside → Table
table_of t = record {
  rules = map rule_of t.rules.items;
  injections = map listed_of t.injections;
  groups = t.groups;
}
