use Rattle.std.proofs.Common.{◌≡◌, ◌+◌, ◌*◌, ◌-◌, ◌≤◌, length, drop}
use Rattle.scope_defs.specs.Frames.{depth}
use Rattle.line_defs.specs.Captures.{all_closed}
use Rattle.line_defs.specs.Turns.{run_from}
use Rattle.line_defs.specs.Line.{inside_by}
use Rattle.line_laws.specs.RunEnds.{IsRunning, RunsTo}
use Rattle.line_laws.proofs.Turns.{turns_left}
use Rattle.line_turns.specs.Over.{run_of, machine_over, few_at, IsKept}
use Rattle.line_turns.specs.Telling.{telling_of, takens_told}
use Rattle.line_turns.proofs.turns.+run.Given as goal

abbrev pub decreases-run : goal.decreases-run
decreases-run l = 9 * l.levels + 8

abbrev pub decreases-turn : goal.decreases-turn
decreases-turn l = 9 * l.levels + 7

abbrev pub decreases-rule_found : goal.decreases-rule_found
decreases-rule_found l = 9 * l.levels + 6

abbrev pub decreases-begin_found : goal.decreases-begin_found
decreases-begin_found l = 9 * l.levels + 5

abbrev pub decreases-end_found : goal.decreases-end_found
decreases-end_found l = 9 * l.levels + 5

abbrev pub decreases-match_found : goal.decreases-match_found
decreases-match_found l = 9 * l.levels + 5

abbrev pub decreases-tell_match : goal.decreases-tell_match
decreases-tell_match l = 9 * l.levels + 4

abbrev pub decreases-tell_takens : goal.decreases-tell_takens
decreases-tell_takens l = 9 * l.levels + 3

abbrev pub decreases-tell_all : goal.decreases-tell_all
decreases-tell_all l = 9 * l.levels + 2

abbrev pub decreases-tell_taken : goal.decreases-tell_taken
decreases-tell_taken l = 9 * l.levels + 1

abbrev pub decreases-run_inside : goal.decreases-run_inside
decreases-run_inside l = 9 * l.levels

-- the run from here ends as the whole does
abbrev pub invariant-run-loop : goal.invariant-run-loop
invariant-run-loop l = record {
  kept : IsKept l.fn.searcher l.searcher l.fn.work l.work;
  running : IsRunning (run_of l.over l.levels) l.state;
  few : depth l.state.stack ≤ few_at l.levels;
  ends : RunsTo (run_of l.over l.levels) l.state
      (run_from (machine_over l.over) (inside_by (machine_over l.over) l.levels) l.over.text.now l.fn.state);
}

abbrev pub decreases-run-loop : goal.decreases-run-loop
decreases-run-loop l = turns_left (length l.over.text.now) l.state

-- the captures that are left tell the rest
abbrev pub invariant-tell_all-loop-taken : goal.invariant-tell_all-loop-taken
invariant-tell_all-loop-taken l = record {
  kept : IsKept l.fn.searcher l.searcher l.fn.work l.work;
  told : takens_told (telling_of l.over l.levels l.around) (drop l.taken-index l.takens)
      (record { out = l.out; locals = l.locals })
      ≡ takens_told (telling_of l.over l.levels l.around) l.takens
      (record { out = l.fn.out; locals = l.fn.locals });
}
