-- The object that knows lines that begin with `#`: such a line is a comment, and opens one for the lines behind it, or
-- closes the one that is open.
use Rattle.std.specs.Prelude.{ℕ, ◌==◌, List, [], ◌∷◌, length, codes, Bool, true, false, not, ◌||◌, None}
use Rattle.text_pos.specs.declared.limits.Limits.{Limits}
use Rattle.scope_defs.specs.Scopes.{Scopes, push}
use Rattle.scope_defs.specs.Frames.{Frame, Start}
use Rattle.line_defs.specs.Tokens.{whole}
use Rattle.line_defs.specs.Line.{LineResult}
use Rattle.line_runs.specs.Runs.{Runs}

pub record MarkedState : Type 0 where
  pub limits : Limits
  pub start : Start
  pub runs : ℕ

abbrev pub is_mark : List ℕ → Bool
is_mark [] = false
is_mark (c ∷ cs) = c == 35

-- the only frame says whether a comment is open
abbrev pub frame_where : (is_open : Bool) → Frame
frame_where is_open = record {
  rule = 0;
  enter = None;
  anchor = None;
  took_end = is_open;
  end_text = None;
  name = [];
  content = [];
}

abbrev pub start_where : (first is_open : Bool) → Start
start_where first is_open = record { first = first; stack = record { top = frame_where is_open; below = [] } }

abbrev pub scopes_where : (is_comment : Bool) → Scopes
scopes_where true = push [] (codes "comment")
scopes_where false = []

abbrev pub open_behind : (is_open is_mark : Bool) → Bool
open_behind is_open true = not is_open
open_behind is_open false = is_open

abbrev pub marked_line : Start → List ℕ → LineResult
marked_line start line = record {
  tokens = whole (length line) (scopes_where (start.stack.top.took_end || is_mark line));
  end = start_where false (open_behind start.stack.top.took_end (is_mark line));
  stopped = false;
}

abbrev pub told : MarkedState → Runs
told m = record { start = m.start; groups = 0; limits = m.limits; line = marked_line }
