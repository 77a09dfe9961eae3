-- The count is over the ledger of its own blank.
use Rattle.reuse_parser_tests.proofs.stage.Stage.of.Given as goal

abbrev pub ghosts-counted : goal.ghosts-counted
ghosts-counted a = record { name = a.blank.name; parts = a.blank.parts }
