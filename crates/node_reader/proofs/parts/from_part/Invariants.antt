use Rattle.std.proofs.Common.{◌≡◌}
use Rattle.text_pos.specs.Lengths.{plus}
use Rattle.node_reader.specs.Parts.{front}
use Rattle.node_reader.proofs.parts.from_part.Given as goal

abbrev pub invariant-loop-before : goal.invariant-loop-before
invariant-loop-before l = plus (front l.before l.node) l.offset ≡ plus (front l.fn.number l.node) l.fn.rest

abbrev pub decreases-loop-before : goal.decreases-loop-before
decreases-loop-before l = l.before
