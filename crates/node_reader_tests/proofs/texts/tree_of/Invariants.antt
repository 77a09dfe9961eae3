-- The count is over the ledger of its own blank.
use Rattle.node_reader_tests.proofs.texts.tree_of.Given as goal

abbrev pub ghosts-counted_tree_of : goal.ghosts-counted_tree_of
ghosts-counted_tree_of a = record { name = a.blank.name; parts = a.blank.parts }
