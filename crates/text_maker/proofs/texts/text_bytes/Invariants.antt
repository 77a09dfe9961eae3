use Rattle.std.proofs.Common.{◌≡◌, map}
use Rattle.std.specs.List.{join_with_byte, range_with_len}
use Rattle.generator_defs.specs.GeneratedText.{generated_line}
use Rattle.text_maker.proofs.texts.text_bytes.Given as goal

-- the lines so far
abbrev pub invariant-loop-i : goal.invariant-loop-i
invariant-loop-i l = l.bytes.items ≡ join_with_byte 10 (map (generated_line l.n) (range_with_len 0 l.i))
