use Rattle.std.proofs.Common.{◌≡◌, ◌++◌}
use Rattle.std.specs.Str.{chars, IsUtf8}
use Rattle.std.specs.Str.Iter.{chars_rest}
use Rattle.line_text.specs.LineEnds.{normed}
use Rattle.line_text.proofs.draft.Draft.put_text.Given as goal

-- what was added, and what the rest still adds
abbrev pub invariant-loop-c : goal.invariant-loop-c
invariant-loop-c l = record {
  rest_utf8 : IsUtf8 (chars_rest l.c-iterator);
  added : l.self ++ normed l.before (chars (chars_rest l.c-iterator))
      ≡ l.initial.self ++ normed l.initial.before (chars l.text);
}
