use Rattle.std.proofs.Common.{◌≡◌, ◌++◌, length}
use Rattle.std.specs.Prelude.{chars, encode_utf8_all, string_bytes}
use Rattle.line_defs.specs.ScopeTexts.{filled}
use Rattle.scope_texts.proofs.names.scope_text.Given as goal

abbrev pub invariant-loop-rest : goal.invariant-loop-rest
invariant-loop-rest l =
    string_bytes l.out ++ encode_utf8_all (filled l.text l.work.hit l.rest)
    ≡ encode_utf8_all (filled l.text l.work.hit (chars l.name))

abbrev pub decreases-loop-rest : goal.decreases-loop-rest
decreases-loop-rest l = length l.rest
