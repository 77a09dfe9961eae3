-- A run ends by itself: the turns that its definition may take suffice.
use Rattle.std.specs.Prelude.{◌≡◌, ◌≢◌, ℕ, ◌+◌, ◌*◌, ◌≤◌, List, [], ◌∷◌, length}
use Rattle.scope_defs.specs.Frames.{Frame, depth}
use Rattle.rule_defs.specs.Rules.{BeginEnd}
use Rattle.line_defs.specs.declared.limits.TheConstants.{MOST_OPEN, MOST_LEVELS}
use Rattle.line_defs.specs.Machine.{Machine, rule_at}
use Rattle.line_defs.specs.Runs.{State, Stops, GoesOn}
use Rattle.line_defs.specs.Turns.{Run, turn}

-- a run from a state to another, turn by turn until one stops it
pub data RunsTo : Run → State → State → Type 0 where
  last_turn : {run : Run} {state end : State} → turn run state ≡ Stops end → RunsTo run state end
  then_runs : {run : Run} {state next end : State} → turn run state ≡ GoesOn next → RunsTo run next end
      → RunsTo run state end

-- the outermost frame is of no begin/end rule, as a root is
abbrev pub IsRooted : Machine → Frame → (below : List Frame) → Type 0
IsRooted machine frame [] = (rule_at machine frame.rule).kind ≢ BeginEnd
IsRooted machine frame (lower ∷ below) = IsRooted machine lower below

-- A line has at most 1,000 frames, and each of the sixteen levels of captures adds two at most: the frame of a begin,
-- and that of a capture's run.
abbrev pub most_frames_in_captures : ℕ
most_frames_in_captures = MOST_OPEN + 2 * MOST_LEVELS

-- what each state of a run has
pub record IsRunning (run : Run) (state : State) : Type 0 where
  pub inside : state.place ≤ length run.text
  pub few : depth state.stack ≤ most_frames_in_captures
  pub rooted : IsRooted run.machine state.stack.top state.stack.below
