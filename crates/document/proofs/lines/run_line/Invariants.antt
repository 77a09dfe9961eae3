-- The lines before line m are run, and what is left of the results are those from here on.
use Rattle.std.proofs.Common.{◌≡◌, drop}
use Rattle.text_defs.specs.Text.{lines_of}
use Rattle.scope_defs.specs.Frames.{bare}
use Rattle.line_runs.specs.Runs.{Runs, Fits}
use Rattle.document_defs.specs.TextRows.{Settings, results_from}
use Rattle.document.specs.Settings.{settings_by}
use Rattle.document.proofs.lines.run_line.Given as goal

abbrev pub invariant-loop-m : goal.invariant-loop-m
invariant-loop-m g l =
    let told : Runs = g.R.LineRuns.told l.initial.machine in
    let settings : Settings = settings_by told l.over.brackets.now l.over.limits in
    record {
      same : g.R.LineRuns.told l.machine ≡ told;
      budget : l.work.budget ≡ told.limits.budget;
      room : l.work.room ≡ told.groups;
      fits : Fits told (bare l.start);
      left : results_from settings (bare l.start) (drop l.m (lines_of l.over.text.now))
          ≡ drop l.m (results_from settings settings.start (lines_of l.over.text.now));
    }
