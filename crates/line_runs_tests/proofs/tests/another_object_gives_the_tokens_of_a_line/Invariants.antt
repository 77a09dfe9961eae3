-- The count is over the ledger of its own blank.
use Rattle.line_runs_tests.proofs.tests.another_object_gives_the_tokens_of_a_line.Given as goal

abbrev pub ghosts-end_of : goal.ghosts-end_of
ghosts-end_of g a = record { name = a.blank.name; parts = a.blank.parts }
