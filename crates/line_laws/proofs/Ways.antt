-- Whatever way leads each run to where it stops, a line goes as its definition says.
use Rattle.std.proofs.Common.{◌≡◌, ℕ, zero, suc, ◌+◌, ◌*◌, ◌≤◌, List, length, refl, ap, sym, subst}
use Rattle.std.proofs.Common.{◌∙◌, arith}
use Rattle.std.specs.Prelude.{Bool, true, false, nat_le, Option}
use Rattle.scope_defs.specs.Frames.{Start}
use Rattle.line_defs.specs.declared.limits.TheConstants.{MOST_OPEN, MOST_LEVELS}
use Rattle.line_defs.specs.Machine.{Machine}
use Rattle.line_defs.specs.Runs.{State, Turned, GoesOn, Stops}
use Rattle.line_defs.specs.Captures.{Running}
use Rattle.line_defs.specs.Turns.{run_from}
use Rattle.line_defs.specs.WhilePass.{while_pass}
use Rattle.line_defs.specs.Line.{inside_by, run_over, with_line_feed, at_front, after_pass, line_run}
use Rattle.line_defs.specs.Line.{result_of, line_by, tokenised}
use Rattle.line_laws.specs.RunEnds.{RunsTo, last_turn, then_runs, most_frames_in_captures, IsRunning}
use Rattle.line_laws.specs.Starts.{IsBuiltTo, IsFit}
use Rattle.line_laws.specs.Ways.{Way, Leads, inside_along, passed_along, run_along, line_along, tokenised_along}
use Rattle.line_laws.proofs.Turns.{Steps, turn-steps, run_from-ends}
use Rattle.line_laws.proofs.Stacks.{BuildsTo, turn-builds_to}
use Rattle.line_laws.proofs.Agree.{AgreeWhere, run_with}
use Rattle.line_laws.proofs.TurnsAgree.{turn-agrees, while_pass-agrees}
use Rattle.line_laws.proofs.Lines.{MayRun, at_front-may, passed-may}

pub run_from-leads : (machine : Machine) → Leads machine (run_from machine)
run_from-leads machine =
    record { leads = λ inside text state running. run_from-ends machine inside text state running }

-- ---- a run stops in one state

stops-same : (a b : State) → Stops a ≡ Stops b → a ≡ b
stops-same a b e = cc

goes-same : (a b : State) → GoesOn a ≡ GoesOn b → a ≡ b
goes-same a b e = cc

module _ (machine : Machine) (most : ℕ) (text : List ℕ) (one other : Option Running)
    (agree : AgreeWhere machine (most + 2) one other) (enough : MOST_OPEN ≤ most) where
  runs_to-same : (state a b : State) → IsRunning (run_with machine text one) state →
      IsBuiltTo most machine state.stack → RunsTo (run_with machine text one) state a →
      RunsTo (run_with machine text other) state b → a ≡ b
  runs_to-same state a b running built (last_turn e) (last_turn e') =
      stops-same a b (sym e ∙ turn-agrees machine most text one other agree state running.inside built ∙ e')
  runs_to-same state a b running built (last_turn e) (then_runs {next = next'} e' goes') =
      let no : Stops a ≡ GoesOn next' =
      sym e ∙ turn-agrees machine most text one other agree state running.inside built ∙ e' in cc
  runs_to-same state a b running built (then_runs {next = next} e goes) (last_turn e') =
      let no : GoesOn next ≡ Stops b =
      sym e ∙ turn-agrees machine most text one other agree state running.inside built ∙ e' in cc
  runs_to-same state a b running built (then_runs {next = next} e goes) (then_runs {next = next'} e' goes') =
      runs_to-same next a b
      (subst (Steps (run_with machine text one) state) e (turn-steps (run_with machine text one) state running)).0
      (subst (BuildsTo most machine) e
      (turn-builds_to (run_with machine text one) most enough state built))
      goes
      (subst (λ s. RunsTo (run_with machine text other) s b)
      (goes-same next' next (sym e'
      ∙ sym (turn-agrees machine most text one other agree state running.inside built) ∙ e)) goes')

running-built : (machine : Machine) (most : ℕ) (text : List ℕ) (inside : Option Running) (state : State) →
    most ≤ most_frames_in_captures → state.place ≤ length text → IsBuiltTo most machine state.stack →
    IsRunning (run_with machine text inside) state
running-built machine most text inside state few there built =
    record { inside = there; few = omega (arith, built.few, few); rooted = built.rooted }

-- ---- runs inside captures

module _ (machine : Machine) (way : Way) (leads : Leads machine way) where
  inside-agrees : (levels most : ℕ) → MOST_OPEN ≤ most → most + 2 * levels ≤ most_frames_in_captures →
      AgreeWhere machine (most + 2) (inside_by machine levels) (inside_along way levels)
  inside-agrees zero most enough few = tt
  inside-agrees (suc levels) most enough few =
      record {
        agree = λ text state there built. runs_to-same machine (most + 2) text (inside_by machine levels)
            (inside_along way levels) (inside-agrees levels (most + 2) (omega (arith, enough)) (omega (arith, few)))
            (omega (arith, enough)) state (run_from machine (inside_by machine levels) text state)
            (way (inside_along way levels) text state)
            (running-built machine (most + 2) text (inside_by machine levels) state (omega (arith, few)) there built)
            built
            (run_from-ends machine (inside_by machine levels) text state
            (running-built machine (most + 2) text (inside_by machine levels) state (omega (arith, few)) there built))
            (leads.leads (inside_along way levels) text state
            (running-built machine (most + 2) text (inside_along way levels) state (omega (arith, few)) there built));
      }

  -- ---- lines

  abbrev agrees : AgreeWhere machine (MOST_OPEN + 2) (inside_by machine MOST_LEVELS) (inside_along way MOST_LEVELS)
  agrees = inside-agrees MOST_LEVELS MOST_OPEN (omega arith) (omega arith)

  run-same : (text : List ℕ) (state : State) → MayRun (run_over machine text) state →
      way (inside_along way MOST_LEVELS) text state ≡ run_from machine (inside_by machine MOST_LEVELS) text state
  run-same text state may =
      sym (runs_to-same machine MOST_OPEN text (inside_by machine MOST_LEVELS) (inside_along way MOST_LEVELS) agrees
      (omega arith) state (run_from machine (inside_by machine MOST_LEVELS) text state)
      (way (inside_along way MOST_LEVELS) text state)
      (running-built machine MOST_OPEN text (inside_by machine MOST_LEVELS) state (omega arith) may.tells.inside
      may.built)
      may.built
      (run_from-ends machine (inside_by machine MOST_LEVELS) text state
      (running-built machine MOST_OPEN text (inside_by machine MOST_LEVELS) state (omega arith) may.tells.inside
      may.built))
      (leads.leads (inside_along way MOST_LEVELS) text state
      (running-built machine MOST_OPEN text (inside_along way MOST_LEVELS) state (omega arith) may.tells.inside
      may.built)))

  run_along-same : (text : List ℕ) (state : State) → MayRun (run_over machine text) state →
      run_along way machine text state ≡ line_run machine text state
  run_along-same text state may =
      ap (λ turned. passed_along way turned text)
      (sym (while_pass-agrees machine MOST_OPEN text (inside_by machine MOST_LEVELS) (inside_along way MOST_LEVELS)
      agrees state may.tells.inside may.built))
      ∙ by_pass (while_pass (run_over machine text) state) refl
    where
      by_pass : (turned : Turned) → while_pass (run_over machine text) state ≡ turned →
          passed_along way turned text ≡ after_pass turned machine text
      by_pass (GoesOn next) e = run-same text next (passed-may machine MOST_LEVELS text state next may e)
      by_pass (Stops end) e = refl

  pub tokenised_along-same : (start : Start) (line : List ℕ) → IsFit machine start →
      tokenised_along way machine start line ≡ tokenised machine start line
  tokenised_along-same start line is = by_length (nat_le machine.long (length line))
    where
      by_length : (b : Bool) → line_along way b machine start line ≡ line_by b machine start line
      by_length true = refl
      by_length false =
          ap (result_of line)
          (run_along-same (with_line_feed line) (at_front start)
          (at_front-may machine (inside_by machine MOST_LEVELS) (with_line_feed line) start is))
