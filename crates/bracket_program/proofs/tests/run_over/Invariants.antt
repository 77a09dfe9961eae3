-- Each count is over the ledger of its own blank.
use Rattle.bracket_program.proofs.tests.run_over.Given as goal

abbrev pub ghosts-run_counted-L-Ledger : goal.ghosts-run_counted-L-Ledger
ghosts-run_counted-L-Ledger g a = record { name = a.steps.name; parts = a.steps.parts }

abbrev pub ghosts-run_counted-M-Ledger : goal.ghosts-run_counted-M-Ledger
ghosts-run_counted-M-Ledger g a = record { name = a.marks.name; parts = a.marks.parts }
