use Rattle.std.proofs.Common.{◌≡◌, ◌+◌, false, drop}
use Rattle.syntax_defs.specs.PatternSyntax.{comment_length}
use Rattle.onig_parse.proofs.arms.comment_length.Given as goal

-- what the rest of the comment says is what the whole says
abbrev pub invariant-loop-i : goal.invariant-loop-i
invariant-loop-i l = comment_length l.escaped (l.i + 3) (drop l.i l.cs) ≡ comment_length false 3 l.cs
