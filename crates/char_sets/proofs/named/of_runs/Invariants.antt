use Rattle.ucd_table.specs.Steps.{run_value}
use Rattle.ucd_table.proofs.RunsLemmas.{IsAt}
use Rattle.char_sets.specs.Named.{has_number}
use Rattle.char_sets.proofs.Joined.{Joined}
use Rattle.char_sets.proofs.named.of_runs.Given as goal

abbrev pub invariant-loop-run : goal.invariant-loop-run
invariant-loop-run l = record {
  place : IsAt l.runs l.run-index l.at;
  so_far : Joined l.ranges.items l.start l.at (λ c. has_number l.numbers (run_value l.runs c));
}
