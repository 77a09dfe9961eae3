use Rattle.std.proofs.Common.{◌≡◌, take, ◌^◌, min}
use Rattle.line_defs.specs.ScopeTexts.{number_of}
use Rattle.scope_texts.proofs.digits.number_of.Given as goal

abbrev pub invariant-loop-c : goal.invariant-loop-c
invariant-loop-c l = l.number ≡ min (number_of (take l.c-index l.digits)) (2 ^ 32)
