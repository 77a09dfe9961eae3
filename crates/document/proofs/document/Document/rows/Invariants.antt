-- No step is told: the count is over the ledger of its own blank.
use Rattle.document.proofs.document.Document.rows.Given as goal

abbrev pub ghosts-paired_on : goal.ghosts-paired_on
ghosts-paired_on g a = record { name = a.blank.name; parts = a.blank.parts }
