-- What callers see of a machine.
use Rattle.std.specs.Prelude.{ℕ, Option, Some, None}
use Rattle.text_pos.specs.declared.limits.Limits.{Limits}
use Rattle.scope_defs.specs.Frames.{Start}
use Rattle.rule_table.specs.Views.{Table}
use Rattle.line_defs.specs.Machine.{Machine as LineMachine}
use Rattle.line_defs.specs.Line.{tokenised, no_grammar}
use Rattle.line_runs.specs.Runs.{Runs}
use Rattle.line_turns.specs.Over.{machine_of}

-- the rules of a grammar or none, the limits, the start, how many texts of patterns can't be read, and how many runs
-- were made
pub record MachineState : Type 0 where
  pub table : Option Table
  pub limits : Limits
  pub start : Start
  pub unread : ℕ
  pub runs : ℕ

abbrev pub line_machine_of : Option Table → Limits → LineMachine
line_machine_of None limits = no_grammar limits.budget limits.long
line_machine_of (Some table) limits = machine_of table limits

abbrev pub groups_of : Option Table → ℕ
groups_of None = 0
groups_of (Some table) = table.groups

-- The result of a line is that of the definition, by the rules of the grammar.
abbrev pub told : MachineState → Runs
told m = record {
  start = m.start;
  groups = groups_of m.table;
  limits = m.limits;
  line = tokenised (line_machine_of m.table m.limits);
}
