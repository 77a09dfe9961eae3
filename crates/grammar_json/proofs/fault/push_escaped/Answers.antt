use Rattle.std.proofs.Common.{◌++◌, get_or, ap, ◌∙◌}
use Rattle.grammar_defs.specs.Pointers.{escaped_byte}
use Rattle.grammar_json.proofs.FaultLemmas.{escaped_more}
use Rattle.grammar_json.proofs.fault.push_escaped.Goals as goal

pub loop-byte-preserved : goal.loop-byte-preserved
loop-byte-preserved c =
    c.in_ok-push_part.ensures ∙ (ap (λ p. p ++ escaped_byte (get_or c.args.key.now c.loop-byte.byte-index 0))
    c.loop-byte.invariant ∙ escaped_more c.args.path.now c.args.key.now c.loop-byte.byte-index
    c.loop-byte-test.true)
