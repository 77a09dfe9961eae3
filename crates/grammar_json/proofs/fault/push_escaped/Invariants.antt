use Rattle.std.proofs.Common.{◌≡◌, ◌++◌, take}
use Rattle.grammar_defs.specs.Pointers.{escaped}
use Rattle.grammar_json.proofs.fault.push_escaped.Given as goal

-- what was added is that of the bytes so far
abbrev pub invariant-loop-byte : goal.invariant-loop-byte
invariant-loop-byte l = l.path ≡ l.initial.path ++ escaped (take l.byte-index l.key)
