-- A line by any way to make runs, in place of the turns that its definition counts.
use Rattle.std.specs.Prelude.{ℕ, zero, suc, nat_le, List, length, Bool, true, false, Option, Some, None}
use Rattle.scope_defs.specs.Frames.{Start}
use Rattle.line_defs.specs.declared.limits.TheConstants.{MOST_LEVELS}
use Rattle.line_defs.specs.Machine.{Machine}
use Rattle.line_defs.specs.Runs.{State, Turned, GoesOn, Stops}
use Rattle.line_defs.specs.Captures.{Running}
use Rattle.line_defs.specs.WhilePass.{while_pass}
use Rattle.line_defs.specs.Line.{LineResult, with_line_feed, at_front, result_of, long_line}
use Rattle.line_laws.specs.RunEnds.{RunsTo, IsRunning}

-- a way to make a run over a text, given the runs inside its captures
abbrev pub Way : Type 0
Way = Option Running → Running

-- the way leads each run, turn by turn, to where it stops
pub record Leads (machine : Machine) (way : Way) : Type 0 where
  pub leads : (inside : Option Running) (text : List ℕ) (state : State) →
      IsRunning (record { machine = machine; inside = inside; text = text }) state →
      RunsTo (record { machine = machine; inside = inside; text = text }) state (way inside text state)

-- the run over a capture, where so many levels are left
abbrev pub inside_along : Way → (levels : ℕ) → Option Running
inside_along way zero = None
inside_along way (suc levels) = Some (way (inside_along way levels))

abbrev pub passed_along : Way → Turned → (text : List ℕ) → State
passed_along way (GoesOn state) text = way (inside_along way MOST_LEVELS) text state
passed_along way (Stops state) text = state

abbrev pub run_along : Way → Machine → (text : List ℕ) → State → State
run_along way machine text state =
    passed_along way
    (while_pass (record { machine = machine; inside = inside_along way MOST_LEVELS; text = text }) state) text

abbrev pub line_along : Way → (is_long : Bool) → Machine → Start → (line : List ℕ) → LineResult
line_along way true machine start line = long_line start line
line_along way false machine start line =
    result_of line (run_along way machine (with_line_feed line) (at_front start))

-- a line whose runs are made this way
abbrev pub tokenised_along : Way → Machine → Start → (line : List ℕ) → LineResult
tokenised_along way machine start line = line_along way (nat_le machine.long (length line)) machine start line
