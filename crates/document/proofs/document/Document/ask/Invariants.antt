-- No step is told: the count is over the ledger of its own blank.
use Rattle.document.proofs.document.Document.ask.Given as goal

abbrev pub ghosts-answer : goal.ghosts-answer
ghosts-answer g a = record { name = a.blank.name; parts = a.blank.parts }
