-- What an answer says of a grammar's graph.
use Rattle.std.specs.Prelude.{◌≡◌, Result, Ok, Err, ⊤}
use Rattle.rule_table.specs.Views.{Table}
use Rattle.graph_defs.specs.GraphMeaning.{FileGraph, GraphReading, too_wide, graph}
use Rattle.rule_graph.specs.declared.graph.GraphRefusal.{GraphRefusal}
use Rattle.rule_graph.specs.declared.graph.GraphRefusal.TheVariants.{TooWide, Memory}

abbrev pub table_in : FileGraph → Table
table_in g = record { rules = g.rules; injections = g.injections; groups = g.groups }

-- the answer is what the grammar is read as; want of memory says nothing of it
abbrev pub GivesGraph : Result FileGraph GraphRefusal → GraphReading → Type 0
GivesGraph (Ok g) reading = reading ≡ graph g
GivesGraph (Err (TooWide count)) reading = reading ≡ too_wide count
GivesGraph (Err Memory) reading = ⊤
