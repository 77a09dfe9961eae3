use Rattle.std.proofs.Common.{◌≡◌, drop}
use Rattle.grammar_defs.specs.Loosening.{closes_next}
use Rattle.grammar_json.proofs.loosening.closes_next.Given as goal

-- the bytes so far are white space
abbrev pub invariant-loop-byte : goal.invariant-loop-byte
invariant-loop-byte l = closes_next (drop l.byte-index l.rest) ≡ closes_next l.initial.rest
