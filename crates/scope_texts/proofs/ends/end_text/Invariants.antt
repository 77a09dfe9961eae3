use Rattle.std.proofs.Common.{◌≡◌, ◌++◌, length}
use Rattle.std.specs.Prelude.{chars, encode_utf8_all, string_bytes}
use Rattle.line_defs.specs.EndTexts.{end_text}
use Rattle.scope_texts.proofs.ends.end_text.Given as goal

abbrev pub invariant-loop-rest : goal.invariant-loop-rest
invariant-loop-rest l =
    string_bytes l.out ++ encode_utf8_all (end_text l.text l.work.hit l.rest)
    ≡ encode_utf8_all (end_text l.text l.work.hit (chars l.pattern))

abbrev pub decreases-loop-rest : goal.decreases-loop-rest
decreases-loop-rest l = length l.rest
