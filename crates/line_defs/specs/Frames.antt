-- How frames stand on one another in a run, as vscode-textmate has it.
use Rattle.std.specs.Prelude.{ℕ, ◌==◌, List, [], ◌∷◌, Bool, true, false, Option, Some, None}
use Rattle.scope_defs.specs.Scopes.{Scopes, push}
use Rattle.scope_defs.specs.Frames.{Frame, Stack, Start, forgotten_all}

-- some frames, the innermost first, or where there are none the root alone
abbrev pub stack_of : (root : Frame) → List Frame → Stack
stack_of root [] = record { top = root; below = [] }
stack_of root (frame ∷ below) = record { top = frame; below = below }

-- the top frame is popped, unless it is the root
abbrev pub popped : Stack → Stack
popped stack = stack_of stack.top stack.below

-- the top frame with other content scopes
abbrev pub with_content : Scopes → Stack → Stack
with_content scopes stack = record stack { top = record stack.top { content = scopes } }

-- whether a place is one that may be missing
abbrev pub is_at : ℕ → Option ℕ → Bool
is_at place None = false
is_at place (Some other) = other == place

-- ---- from line to line

-- what the next line starts from
abbrev pub after : Stack → Start
after stack = record { first = false; stack = forgotten_all stack }

-- the root has rule 0 and the scope name of its grammar
abbrev pub root : (scope_name : List ℕ) → Frame
root scope_name =
    record {
      rule = 0;
      enter = None;
      anchor = None;
      took_end = false;
      end_text = None;
      name =
          push [] scope_name;
      content = push [] scope_name;
    }

-- a text starts with the root alone
abbrev pub start_of : (scope_name : List ℕ) → Start
start_of scope_name = record { first = true; stack = record { top = root scope_name; below = [] } }
