-- The count is over the ledger of its own blank.
use Rattle.reuse_parser_tests.proofs.tests.rows_by_tree.Given as goal

abbrev pub ghosts-tree_of : goal.ghosts-tree_of
ghosts-tree_of a = record { name = a.blank.name; parts = a.blank.parts }
