-- Where lines start from: not too many open rules, of which the outermost is a root.
use Rattle.std.specs.Prelude.{ℕ, ◌≤◌}
use Rattle.scope_defs.specs.Frames.{Start, Stack, depth}
use Rattle.line_defs.specs.declared.limits.TheConstants.{MOST_OPEN}
use Rattle.line_defs.specs.Machine.{Machine}
use Rattle.line_laws.specs.RunEnds.{IsRooted}

-- at most so many open rules
pub record IsBuiltTo (most : ℕ) (machine : Machine) (stack : Stack) : Type 0 where
  pub few : depth stack ≤ most
  pub rooted : IsRooted machine stack.top stack.below

abbrev pub IsBuilt : Machine → Stack → Type 0
IsBuilt machine stack = IsBuiltTo MOST_OPEN machine stack

-- a line may start here
abbrev pub IsFit : Machine → Start → Type 0
IsFit machine start = IsBuilt machine start.stack
