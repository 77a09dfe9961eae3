-- What a shared stack is seen as, and what it keeps.
use Rattle.std.specs.Prelude.{◌≡◌, ◌≤◌, List, [], Option, Some, None}
use Rattle.scope_defs.specs.declared.limits.TheConstants.{MOST_FRAMES}
use Rattle.scope_defs.specs.Frames.{Frame, Stack, frames, depth}
use Rattle.scope_stack.specs.Numbers.{frames_number}
use Rattle.scope_stack.specs.declared.stack.Level.{Level}

abbrev pub frames_of : Option Stack → List Frame
frames_of None = []
frames_of (Some stack) = frames stack

abbrev pub stack_at : Level → Stack
stack_at level = record { top = level.frame; below = frames_of level.below }

pub record Keeps (level : Level) : Type 0 where
  pub depth : level.depth ≡ depth (stack_at level)
  pub few : level.depth ≤ MOST_FRAMES
  pub number : level.number ≡ frames_number (frames (stack_at level))
