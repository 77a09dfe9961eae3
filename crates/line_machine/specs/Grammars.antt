-- How a machine is kept.
use Rattle.std.specs.Prelude.{◌≡◌, Option, option_map, IfSome}
use Rattle.std.specs.Rc.{rc_value}
use Rattle.rule_table.specs.Views.{Table}
use Rattle.line_laws.specs.Starts.{IsFit}
use Rattle.line_machine.specs.declared.machine.Grammar.{Grammar}
use Rattle.line_machine.specs.declared.machine.Machine.TheInside.{Inside}
use Rattle.line_machine.specs.Machines.{line_machine_of}

abbrev pub table_of : Grammar → Table
table_of grammar = rc_value grammar.table

abbrev pub table_in : Option Grammar → Option Table
table_in grammar = option_map table_of grammar

-- the search goes by the same rules
abbrev pub IsGrammar : Grammar → Type 0
IsGrammar grammar = grammar.searcher ≡ table_of grammar

-- and the start fits them
pub record IsMachine (m : Inside) : Type 0 where
  pub one : IfSome m.grammar IsGrammar
  pub fit : IsFit (line_machine_of (table_in m.grammar) m.limits) m.start
