-- The lines before line n are run and have their marks, and the lines behind them go on from here.
use Rattle.std.proofs.Common.{◌≡◌, ◌++◌, length, map, take, drop}
use Rattle.text_defs.specs.Text.{lines_of}
use Rattle.scope_defs.specs.Frames.{bare}
use Rattle.line_runs.specs.Runs.{Runs, Fits}
use Rattle.document_defs.specs.TextRows.{Settings, marks_from}
use Rattle.document.specs.Settings.{settings_by}
use Rattle.document.proofs.lines.mark_lines.Given as goal

abbrev pub invariant-loop-n : goal.invariant-loop-n
invariant-loop-n g l =
    let told : Runs = g.R.LineRuns.told l.initial.machine in
    let settings : Settings = settings_by told l.over.brackets.now l.over.limits in
    record {
      same : g.R.LineRuns.told l.machine ≡ told;
      budget : l.work.budget ≡ told.limits.budget;
      room : l.work.room ≡ told.groups;
      fits : Fits told (bare l.start);
      marks : map (λ line. line.marks) l.lines ++ marks_from settings (bare l.start) (drop l.n (lines_of l.over.text.now))
          ≡ marks_from settings settings.start (lines_of l.over.text.now);
      count : length l.lines ≡ l.n;
      lengths : map (λ line. line.length) l.lines ≡ map length (take l.n (lines_of l.over.text.now));
    }
