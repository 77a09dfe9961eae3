-- Each count is over the ledger of its own blank.
use Rattle.bracket_program.proofs.main.Given as goal

abbrev pub ghosts-serve_words-L-Ledger : goal.ghosts-serve_words-L-Ledger
ghosts-serve_words-L-Ledger a = record { name = a.steps.name; parts = a.steps.parts }

abbrev pub ghosts-serve_words-M-Ledger : goal.ghosts-serve_words-M-Ledger
ghosts-serve_words-M-Ledger a = record { name = a.marks.name; parts = a.marks.parts }
