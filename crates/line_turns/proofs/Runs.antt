-- Runs, turn by turn.
use Rattle.std.proofs.Common.{◌≡◌, ℕ, ◌<◌, ◌≤◌, length, ap, sym, ◌∙◌, subst}
use Rattle.scope_defs.specs.Frames.{depth}
use Rattle.line_defs.specs.Runs.{State, Turned, GoesOn, Stops}
use Rattle.line_defs.specs.Turns.{Run, turn}
use Rattle.line_laws.specs.RunEnds.{RunsTo, last_turn, then_runs, IsRunning}
use Rattle.line_laws.proofs.Turns.{Steps, turn-steps, turns_left}
use Rattle.line_turns.proofs.Few.{IsFew, turn-few}

state_of : Turned → State
state_of (GoesOn state) = state
state_of (Stops state) = state

goes-same : (a b : State) → GoesOn a ≡ GoesOn b → a ≡ b
unfolding state_of
goes-same a b e = ap state_of e

stops-same : (a b : State) → Stops a ≡ Stops b → a ≡ b
unfolding state_of
stops-same a b e = ap state_of e

pub runs-on : (run : Run) (state next end : State) → RunsTo run state end → GoesOn next ≡ turn run state
    → RunsTo run next end
runs-on run state next end (last_turn e) h =
    let no : GoesOn next ≡ Stops end = h ∙ e in absurd (cc)
runs-on run state next end (then_runs {next = other} e rest) h =
    subst (λ s. RunsTo run s end) (goes-same other next (sym e ∙ sym h)) rest

pub runs-end : (run : Run) (state last end : State) → RunsTo run state end → Stops last ≡ turn run state → last ≡ end
runs-end run state last end (last_turn e) h = stops-same last end (h ∙ e)
runs-end run state last end (then_runs {next = other} e rest) h =
    let no : Stops last ≡ GoesOn other = h ∙ e in absurd (cc)

-- what a turn that lets the run go on keeps
pub record GoesFurther (run : Run) (most : ℕ) (old new : State) : Type 0 where
  pub running : IsRunning run new
  pub fewer : turns_left (length run.text) new < turns_left (length run.text) old
  pub few : depth new.stack ≤ most

by_turn : (run : Run) (most : ℕ) (old new : State) (turned : Turned) → GoesOn new ≡ turned
    → Steps run old turned → IsFew most turned → GoesFurther run most old new
by_turn run most old new (GoesOn state) e steps few =
    let same : state ≡ new = sym (goes-same new state e) in
    subst (λ s. GoesFurther run most old s) same (record { running = steps.0; fewer = steps.1; few = few })
by_turn run most old new (Stops state) e steps few = absurd (cc)

pub goes-further : (run : Run) (most : ℕ) (old new : State) → 1000 ≤ most → IsRunning run old
    → depth old.stack ≤ most → GoesOn new ≡ turn run old → GoesFurther run most old new
goes-further run most old new enough running few e =
    by_turn run most old new (turn run old) e (turn-steps run old running) (turn-few most enough run old few)
