-- The numbers that the program ends with, and what it says of them. They are this project's own.
use Rattle.std.specs.Prelude.{ℕ, List, codes, Option, Some, None}
use Rattle.bracket_program.specs.declared.status.Status.{Status}
use Rattle.bracket_program.specs.declared.status.Status.TheVariants as status

abbrev pub number_of : Status → ℕ
number_of status.Done = 0
number_of status.Words = 2
number_of status.TextFile = 3
number_of status.GrammarFile = 4
number_of status.BracketFile = 5
number_of status.ReadFault = 6
number_of status.WriteFault = 7
number_of status.ScriptFull = 8
number_of status.Memory = 9

-- the line on standard error
abbrev pub line_about : Status → Option (List ℕ)
line_about status.Done = None
line_about status.Words = Some (codes "brackets: words")
line_about status.TextFile = Some (codes "brackets: text file")
line_about status.GrammarFile = Some (codes "brackets: grammar file")
line_about status.BracketFile = Some (codes "brackets: bracket file")
line_about status.ReadFault = Some (codes "brackets: read fault")
line_about status.WriteFault = Some (codes "brackets: write fault")
line_about status.ScriptFull = Some (codes "brackets: script full")
line_about status.Memory = Some (codes "brackets: memory")
