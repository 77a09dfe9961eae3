use Rattle.std.proofs.Common.{◌≡◌, ◌-◌, ◌≤◌}
use Rattle.session_defs.specs.Output.{most_script_bytes}
use Rattle.bracket_program.specs.Ends.{outside}
use Rattle.bracket_program.specs.Serving.{Serving}
use Rattle.bracket_program.specs.Sessions.{session_in, settings_in}
use Rattle.bracket_program.proofs.serve.serve.Given as goal

-- each whole line of what was taken has its reply
abbrev pub invariant-loop-taken : goal.invariant-loop-taken
invariant-loop-taken g l =
    let left = g.S.Source.left in
    let reads = g.S.Source.faults in
    let held = g.K.Sink.held in
    let writes = g.K.Sink.faults in
    record {
      serving : Serving (outside (left l.fn.script) (held l.fn.sink) (reads l.fn.script) (writes l.fn.sink))
          (outside (left l.script) (held l.sink) (reads l.script) (writes l.sink))
          (session_in l.fn.document) l.document.text l.cutter l.taken;
      settings : settings_in l.document ≡ settings_in l.fn.document;
      few : l.taken ≤ most_script_bytes;
    }

abbrev pub decreases-loop-taken : goal.decreases-loop-taken
decreases-loop-taken g l = most_script_bytes - l.taken
