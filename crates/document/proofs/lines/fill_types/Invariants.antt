use Rattle.std.proofs.Common.{◌≡◌, take}
use Rattle.document_defs.specs.TextRows.{types_of}
use Rattle.document.proofs.lines.fill_types.Given as goal

abbrev pub invariant-loop-token : goal.invariant-loop-token
invariant-loop-token l = l.types.items ≡ types_of (take l.token-index l.tokens)
