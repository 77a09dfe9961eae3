-- The count is over the ledger of its own blank.
use Rattle.reuse_parser_tests.proofs.stage.Stage.after.Given as goal

abbrev pub ghosts-counted_after : goal.ghosts-counted_after
ghosts-counted_after a = record { name = a.blank.name; parts = a.blank.parts }
