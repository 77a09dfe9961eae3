-- The count is over the ledger of its own blank.
use Rattle.mark_source_tests.proofs.tests.told_from.Given as goal

abbrev pub ghosts-gives : goal.ghosts-gives
ghosts-gives a = record { name = a.blank.name; parts = a.blank.parts }
