use Rattle.std.proofs.Common.{◌≡◌, ◌++◌, take}
use Rattle.std.specs.Prelude.{encode_utf8_all, string_bytes}
use Rattle.line_defs.specs.ScopeTexts.{in_case}
use Rattle.scope_texts.proofs.names.push_captured.Given as goal

abbrev pub invariant-loop-c : goal.invariant-loop-c
invariant-loop-c l =
    string_bytes l.out ≡ string_bytes l.initial.out ++ encode_utf8_all (in_case l.case (take l.c-index l.c-items))
