use Rattle.std.proofs.Common.{◌≡◌, ◌+◌, ◌*◌, ◌++◌, map}
use Rattle.std.specs.List.{range_with_len}
use Rattle.generator_defs.specs.GeneratedText.{piece}
use Rattle.text_maker.proofs.texts.push_line.Given as goal

-- the pieces so far
abbrev pub invariant-loop-p : goal.invariant-loop-p
invariant-loop-p l =
    l.bytes.items ≡ l.initial.bytes.items ++ map (λ p. piece (3 * l.i + 5 * p + l.i * p + l.n)) (range_with_len 0 l.p)
