-- The count is over the ledger of its own blank.
use Rattle.reparse_bench.proofs.measured.measure.Given as goal

abbrev pub ghosts-measure_counted : goal.ghosts-measure_counted
ghosts-measure_counted a = record { name = a.blank.name; parts = a.blank.parts }
