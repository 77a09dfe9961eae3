-- The state of a run over a text, and what a turn does to it.
use Rattle.std.specs.Prelude.{ℕ, nat_lt, List, length, Bool, false, Option, if◌then◌else◌}
use Rattle.scope_defs.specs.Frames.{Stack}
use Rattle.line_defs.specs.Tokens.{Output, put}

-- the place of a run, where its anchor is, whether it stands at the start of the first line, the open rules, and what
-- is
-- told so far
pub record State : Type 0 where
  pub place : ℕ
  pub anchor : Option ℕ
  pub first : Bool
  pub stack : Stack
  pub out : Output

-- a turn lets the run go on, or stops it
pub data Turned : Type 0 where
  GoesOn : State → Turned
  Stops : State → Turned

-- The rest: the content scopes of the top frame are put to the text's end, and the run stops.
abbrev pub rest : (text : List ℕ) → State → Turned
rest text state = Stops (record state { out = put state.out state.stack.top.content (length text) })

-- A run goes on behind a match that takes something. From there on it no longer stands at the first line's start.
abbrev pub advanced : (to : ℕ) → State → State
advanced to state = if nat_lt state.place to then record state { place = to; first = false } else state
