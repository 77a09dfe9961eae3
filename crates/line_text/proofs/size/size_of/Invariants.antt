use Rattle.std.proofs.Common.{◌≡◌, ℕ, List, ◌++◌}
use Rattle.std.specs.Str.{chars, IsUtf8}
use Rattle.std.specs.Str.Iter.{chars_rest}
use Rattle.line_text.specs.LineEnds.{normed}
use Rattle.line_text.specs.Sizes.{IsSizeOf}
use Rattle.line_text.proofs.size.size_of.Given as goal

-- what was counted is a front of what is to be counted
abbrev pub invariant-loop-c : goal.invariant-loop-c
invariant-loop-c l = record {
  rest_utf8 : IsUtf8 (chars_rest l.c-iterator);
  counted : (front : List ℕ) × (IsSizeOf front l.size)
      × (front ++ normed l.before (chars (chars_rest l.c-iterator)) ≡ normed l.initial.before (chars l.text));
}
