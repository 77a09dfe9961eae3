use Rattle.std.proofs.Common.{◌≡◌, ◌≤◌, ◌-◌, ◌+◌}
use Rattle.generator_defs.specs.declared.TheConstants.{EDITS_OF_A_SUMMARY}
use Rattle.generator_defs.specs.GeneratedText.{text_after}
use Rattle.bracket_program.specs.Sessions.{settings_in}
use Rattle.bracket_program.proofs.summaries.make_edits.Given as goal

-- so many edits were made
abbrev pub invariant-loop-made : goal.invariant-loop-made
invariant-loop-made l = record {
  text : l.document.text ≡ text_after l.lines l.made;
  settings : settings_in l.document ≡ settings_in l.fn.document;
  few : l.made ≤ l.behind + EDITS_OF_A_SUMMARY;
}

abbrev pub decreases-loop-made : goal.decreases-loop-made
decreases-loop-made l = (l.behind + EDITS_OF_A_SUMMARY) - l.made
