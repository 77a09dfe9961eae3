use Rattle.std.proofs.Common.{◌≡◌, map, false, length}
use Rattle.session_defs.specs.Session.{replies_to, text_behind}
use Rattle.bracket_program.specs.Lines.{cut_reading, given, last_of}
use Rattle.bracket_program.specs.Ends.{WritesUpTo}
use Rattle.bracket_program.specs.Sessions.{settings_in}
use Rattle.bracket_program.proofs.reply_lines.reply_to_lines.Given as goal

-- what was written and the replies to the lines that are left are the replies to all lines
abbrev pub invariant-loop-cut : goal.invariant-loop-cut
invariant-loop-cut g l =
    let held = g.K.Sink.held in
    let faults = g.K.Sink.faults in
    let settings = settings_in l.fn.document in
    record {
      writes : WritesUpTo (held l.fn.sink) (held l.sink)
          (replies_to settings l.fn.document.text (map cut_reading (given l.fn.cutter)))
          (replies_to settings l.document.text (map cut_reading (given l.cutter)));
      text : text_behind settings l.document.text (map cut_reading (given l.cutter))
          ≡ text_behind settings l.fn.document.text (map cut_reading (given l.fn.cutter));
      settings : settings_in l.document ≡ settings;
      counts : faults l.sink ≡ faults l.fn.sink;
      ended : l.cutter.ended ≡ l.fn.cutter.ended;
      unfinished : l.fn.cutter.ended ≡ false → last_of l.cutter.cuts ≡ last_of l.fn.cutter.cuts;
    }

abbrev pub decreases-loop-cut : goal.decreases-loop-cut
decreases-loop-cut g l = length (given l.cutter)
