-- The frames below one are fewer than all.
use Rattle.std.specs.Prelude.{ℕ, suc, ◌≤◌, length, Option, Some, None}
use Rattle.std.proofs.Common.{arith}
use Rattle.scope_defs.specs.Frames.{Frame, Stack}
use Rattle.scope_stack.specs.declared.stack.Stack.TheInside.{Inside}
use Rattle.scope_stack.specs.declared.stack.Stack.TheDeep.{deep-Stack, deep-Level}
use Rattle.scope_stack.specs.Levels.{frames_of}

level_falls : (frame : Frame) (below : Option Stack) (depth number : ℕ)
    → deep-Level (record { frame = frame; below = below; depth = depth; number = number }) ≤ suc
    (length (frames_of below))
level_falls frame None depth number = omega arith
level_falls frame (Some stack) depth number = omega arith

pub frames_fall : (stack : Inside) → deep-Stack stack ≤ suc (length (frames_of stack.shared.value.below))
frames_fall stack = let v = stack.shared.value in let h = level_falls v.frame v.below v.depth v.number in omega arith
