-- The while pass: before a line is run, each frame of a begin/while rule asks whether it goes on. As vscode-textmate
-- has
-- it; what a spent attempt does is this project's own.
use Rattle.std.specs.Prelude.{List, [], ◌∷◌, reverse, Some}
use Rattle.scope_defs.specs.Frames.{Frame, Stack, frames}
use Rattle.rule_defs.specs.Rules.{Kind, BeginWhile, Rule}
use Rattle.line_defs.specs.Machine.{rule_at}
use Rattle.line_defs.specs.Frames.{stack_of}
use Rattle.line_defs.specs.Tokens.{spent}
use Rattle.line_defs.specs.Runs.{State, Turned, GoesOn, rest, advanced}
use Rattle.line_defs.specs.Search.{Matched, Found, Nothing, OutOfBudget, At, while_found}
use Rattle.line_defs.specs.Turns.{Run, told_match}

-- A while pattern that is found is told with the content scopes of its frame. The anchor moves to its end and, where it
-- takes something, the place too.
abbrev pub kept_by : Run → Frame → Rule → Matched → State → State
kept_by run frame rule m state =
    advanced m.to (record state {
      anchor = Some m.to;
      out =
          told_match run state frame.content frame.content m rule.finish_captures;
    })

-- One that isn't found takes away its frame and all above it, which ends the pass. At a spent attempt all frames are
-- kept, with the rest.
abbrev pub asked : Found → Run → Frame → (below : List Frame) → State → (State → Turned) → Turned
asked Nothing run frame below state next = GoesOn (record state { stack = stack_of frame below })
asked OutOfBudget run frame below state next = rest run.text (record state { out = spent state.out })
asked (At m) run frame below state next = next (kept_by run frame (rule_at run.machine frame.rule) m state)

abbrev pub asked_where : Kind → Run → Frame → (below : List Frame) → State → (State → Turned) → Turned
asked_where BeginWhile run frame below state next =
    asked (while_found run.machine run.text state frame) run frame below state next
asked_where _ run frame below state next = next state

-- the frames from the outermost inward, each with those below it that have passed
abbrev pub pass_over : Run → List Frame → (below : List Frame) → State → Turned
pass_over run [] below state = GoesOn state
pass_over run (frame ∷ above) below state =
    asked_where (rule_at run.machine frame.rule).kind run frame below state (pass_over run above (frame ∷ below))

abbrev pub from_root : Stack → List Frame
from_root stack = reverse (frames stack)

abbrev pub while_pass : Run → State → Turned
while_pass run state = pass_over run (from_root state.stack) [] state
