use Rattle.std.proofs.Common.{◌≡◌, ◌≤◌, ◌-◌, ◌+◌}
use Rattle.session_defs.specs.MadeOutput.{text_at_summary}
use Rattle.bracket_program.specs.Sessions.{settings_in}
use Rattle.bracket_program.proofs.SummaryLaws.{Told}
use Rattle.bracket_program.proofs.summaries.tell.Given as goal

-- the summaries up to that of this round are written, and the text is the one that it told of
abbrev pub invariant-loop-round : goal.invariant-loop-round
invariant-loop-round g l =
    let held = g.K.Sink.held in
    let faults = g.K.Sink.faults in
    let settings = settings_in l.fn.document in
    record {
      writes : Told settings l.lines (held l.fn.sink) (held l.sink) (l.round + 1);
      text : l.document.text ≡ text_at_summary l.lines l.round;
      settings : settings_in l.document ≡ settings;
      counts : faults l.sink ≡ faults l.fn.sink;
      few : l.round ≤ 4;
    }

abbrev pub decreases-loop-round : goal.decreases-loop-round
decreases-loop-round g l = 4 - l.round
