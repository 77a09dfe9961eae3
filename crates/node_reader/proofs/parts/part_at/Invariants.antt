use Rattle.std.proofs.Common.{◌≡◌}
use Rattle.text_pos.specs.Lengths.{plus}
use Rattle.node_reader.specs.Parts.{front}
use Rattle.node_reader.proofs.parts.part_at.Given as goal

abbrev pub invariant-loop-number : goal.invariant-loop-number
invariant-loop-number l = plus (front l.number l.node) l.rest ≡ l.fn.offset
