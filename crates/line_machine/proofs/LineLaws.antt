-- Lines: the while pass and the run behind it.
use Rattle.std.proofs.Common.{◌≡◌, ℕ, ◌+◌, ◌-◌, ◌≤◌, List, [], ◌∷◌, ◌++◌}
use Rattle.std.proofs.Common.{length, reverse, ap, sym, ◌∙◌, subst, append-nil, arith}
use Rattle.std.proofs.lemmas.List.{length-append}
use Rattle.scope_defs.specs.Frames.{Stack, Start, frames, depth}
use Rattle.line_defs.specs.declared.limits.TheConstants.{MOST_LEVELS}
use Rattle.line_defs.specs.Machine.{Machine}
use Rattle.line_defs.specs.Runs.{State, Turned, GoesOn, Stops}
use Rattle.line_defs.specs.Turns.{Run, run_from}
use Rattle.line_defs.specs.WhilePass.{pass_over, while_pass}
use Rattle.line_defs.specs.Line.{inside_by, run_over, after_pass, line_run, with_line_feed, at_front}
use Rattle.line_laws.specs.Starts.{IsFit}
use Rattle.line_laws.proofs.Lines.{MayRun, at_front-may, passed-may}
use Rattle.line_turns.specs.declared.over.Over.{Over}
use Rattle.line_turns.specs.Over.{run_of, machine_over, few_at, AreOpen}

pub pass-whole : (run : Run) (stack : Stack) (state : State) (turned : Turned) → state.stack ≡ stack
    → pass_over run (reverse (frames stack) ++ []) [] state ≡ turned → while_pass run state ≡ turned
pass-whole run stack state turned is e =
    ap (λ s. pass_over run (reverse (frames s)) [] state) is
    ∙ ap (λ fs. pass_over run fs [] state) (sym (append-nil (reverse (frames stack)))) ∙ e

module _ (machine : Machine) (text : List ℕ) (state new : State) where
  pub line-stops : while_pass (run_over machine text) state ≡ Stops new → new ≡ line_run machine text state
  line-stops e = ap (λ t. after_pass t machine text) (sym e)

  pub line-goes : (last : State) → while_pass (run_over machine text) state ≡ GoesOn new
      → last ≡ run_from machine (inside_by machine MOST_LEVELS) text new → last ≡ line_run machine text state
  line-goes last e runs = runs ∙ ap (λ t. after_pass t machine text) (sym e)

  pub may-go : MayRun (run_over machine text) state → while_pass (run_over machine text) state ≡ GoesOn new
      → MayRun (run_over machine text) new
  may-go may e = passed-may machine MOST_LEVELS text state new may e

pub may-open : (over : Over) (state : State) → MayRun (run_of over MOST_LEVELS) state
    → AreOpen over MOST_LEVELS state.stack
may-open over state may = record { few = omega (arith, may.built.few); rooted = may.built.rooted }

pub may-few : (over : Over) (state : State) → MayRun (run_of over MOST_LEVELS) state
    → depth state.stack ≤ few_at MOST_LEVELS
may-few over state may = omega (arith, may.built.few)

pub front-may : (over : Over) (start : Start) (state : State) → state ≡ at_front start
    → IsFit (machine_over over) start → MayRun (run_of over MOST_LEVELS) state
front-may over start state is fit =
    subst (MayRun (run_of over MOST_LEVELS)) (sym is)
    (at_front-may (machine_over over) (inside_by (machine_over over) MOST_LEVELS) over.text.now start fit)

pub line-length : (text line : List ℕ) (n : ℕ) → text ≡ with_line_feed line → n ≡ length text - 1 → n ≡ length line
line-length text line n is e =
    let whole : length text ≡ length line + 1 = ap length is ∙ length-append line (10 ∷ []) in
    omega (arith, whole, e)
