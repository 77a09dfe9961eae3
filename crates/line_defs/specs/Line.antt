-- A line: the while pass, the run, and the tokens that are left. As vscode-textmate has it; long lines, and how deep
-- runs
-- inside captures go, are this project's own.
use Rattle.std.specs.Prelude.{ℕ, zero, suc, nat_le, List, [], ◌∷◌, ◌++◌, length, Bool, true, false, Option, Some, None}
use Rattle.scope_defs.specs.Frames.{Start, Token, forgotten_all}
use Rattle.line_defs.specs.declared.limits.TheConstants.{MOST_LEVELS}
use Rattle.line_defs.specs.Machine.{Machine}
use Rattle.line_defs.specs.Frames.{after}
use Rattle.line_defs.specs.Tokens.{nothing_told, within_line, whole, at_least_one}
use Rattle.line_defs.specs.Runs.{State, Turned, GoesOn, Stops}
use Rattle.line_defs.specs.Captures.{Running}
use Rattle.line_defs.specs.Turns.{Run, run_from}
use Rattle.line_defs.specs.WhilePass.{while_pass}

-- what a line gives: its tokens, what the next line starts from, and whether an attempt was spent
pub record LineResult : Type 0 where
  pub tokens : List Token
  pub end : Start
  pub stopped : Bool

-- ---- the runs inside captures

-- the run over a capture, where so many levels are left; where none is left there is no such run
abbrev pub inside_by : Machine → (levels : ℕ) → Option Running
inside_by machine zero = None
inside_by machine (suc levels) = Some (run_from machine (inside_by machine levels))

abbrev pub run_over : Machine → (text : List ℕ) → Run
run_over machine text = record { machine = machine; inside = inside_by machine MOST_LEVELS; text = text }

-- ---- the whole run

-- a line is searched with a line feed at its end
abbrev pub with_line_feed : List ℕ → List ℕ
with_line_feed line = line ++ 10 ∷ []

-- the anchor is at the front, where the begin of the top frame took the end of its line
abbrev pub anchor_after : (took_end : Bool) → Option ℕ
anchor_after true = Some 0
anchor_after false = None

abbrev pub at_front : Start → State
at_front start = record {
  place = 0;
  anchor = anchor_after start.stack.top.took_end;
  first = start.first;
  stack = forgotten_all start.stack;
  out = nothing_told;
}

-- the run behind the while pass, unless an attempt was spent there
abbrev pub after_pass : Turned → Machine → (text : List ℕ) → State
after_pass (GoesOn state) machine text = run_from machine (run_over machine text).inside text state
after_pass (Stops state) machine text = state

abbrev pub line_run : Machine → (text : List ℕ) → State → State
line_run machine text state = after_pass (while_pass (run_over machine text) state) machine text

abbrev pub result_of : (line : List ℕ) → State → LineResult
result_of line state = record {
  tokens = at_least_one (length line) state.stack.top.content (within_line (length line) state.out.tokens);
  end = after state.stack;
  stopped = state.out.stopped;
}

-- ---- lines

-- a long line is one token and leaves the frames as they are
abbrev pub long_line : Start → (line : List ℕ) → LineResult
long_line start line =
    record { tokens = whole (length line) start.stack.top.content; end = after start.stack; stopped = false }

abbrev pub line_by : (is_long : Bool) → Machine → Start → (line : List ℕ) → LineResult
line_by true machine start line = long_line start line
line_by false machine start line = result_of line (line_run machine (with_line_feed line) (at_front start))

-- A line from its start.
abbrev pub tokenised : Machine → Start → (line : List ℕ) → LineResult
tokenised machine start line = line_by (nat_le machine.long (length line)) machine start line

-- A text: each line starts from where the line before it ended.
abbrev pub lines_tokenised : Machine → Start → List (List ℕ) → List LineResult
lines_tokenised machine start [] = []
lines_tokenised machine start (line ∷ lines) =
    tokenised machine start line ∷ lines_tokenised machine (tokenised machine start line).end lines

-- ---- without a grammar

-- Without a grammar there are no rules and no scopes, so a line is one token without scopes.
abbrev pub no_grammar : (budget long : ℕ) → Machine
no_grammar budget long = record { rules = []; injections = []; reader = λ text. None; budget = budget; long = long }
