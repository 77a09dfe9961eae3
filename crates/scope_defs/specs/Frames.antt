-- The open rules of a run over lines, and tokens, as vscode-textmate's StateStackImpl and IToken have them.
use Rattle.std.specs.Prelude.{ℕ, suc, List, [], ◌∷◌, length, map, Bool, Option, Some, None}
use Rattle.scope_defs.specs.Scopes.{Scopes}

-- An open rule: its number, the place where it was entered in the line at hand and the anchor of before, whether its
-- begin took the line's end, the text of its end where a begin's captures stand in it, and the scopes of the whole and
-- of its content.
pub record Frame : Type 0 where
  pub rule : ℕ
  pub enter : Option ℕ
  pub anchor : Option ℕ
  pub took_end : Bool
  pub end_text : Option (List ℕ)
  pub name : Scopes
  pub content : Scopes

-- the open rules: the innermost, and those below it from the inside out
pub record Stack : Type 0 where
  pub top : Frame
  pub below : List Frame

-- where a run over a line begins or ends: whether the line is the first, and the open rules
pub record Start : Type 0 where
  pub first : Bool
  pub stack : Stack

-- the characters of a line from one column to another, and the scopes that hold there
pub record Token : Type 0 where
  pub from : ℕ
  pub to : ℕ
  pub scopes : Scopes

abbrev pub frames : Stack → List Frame
frames stack = stack.top ∷ stack.below

abbrev pub depth : Stack → ℕ
depth stack = suc (length stack.below)

-- the stack of some frames, where there are any
abbrev pub stack_of : List Frame → Option Stack
stack_of [] = None
stack_of (top ∷ below) = Some (record { top = top; below = below })

-- a frame on a stack
abbrev pub on : Frame → Stack → Stack
on frame stack = record { top = frame; below = frames stack }

-- Places of entry and anchors are forgotten from line to line: what is left is what a line starts with.
abbrev pub forgotten : Frame → Frame
forgotten frame = record frame { enter = None; anchor = None }

abbrev pub forgotten_all : Stack → Stack
forgotten_all stack = record { top = forgotten stack.top; below = map forgotten stack.below }

abbrev pub bare : Start → Start
bare start = record { first = start.first; stack = forgotten_all start.stack }
