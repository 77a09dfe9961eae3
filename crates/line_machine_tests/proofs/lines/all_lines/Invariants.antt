use Rattle.std.proofs.Common.{◌≡◌}
use Rattle.scope_defs.specs.Frames.{bare}
use Rattle.line_runs.specs.Runs.{Runs, Fits}
use Rattle.line_machine_tests.proofs.lines.all_lines.Given as goal

abbrev pub invariant-loop-n : goal.invariant-loop-n
invariant-loop-n g l = let told : Runs = g.R.LineRuns.told l.initial.runs in record {
  same : g.R.LineRuns.told l.runs ≡ told;
  fits : Fits told (bare l.start);
  budget : l.work.budget ≡ told.limits.budget;
  room : l.work.room ≡ told.groups;
}
