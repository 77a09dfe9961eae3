use Rattle.std.proofs.Common.{ap, ◌∙◌, sym}
use Rattle.rule_defs.specs.Rules.{Read}
use Rattle.canonical_patterns.specs.Canonical.{canonical}
use Rattle.rule_graph.proofs.SlotLemmas.{slot_of_read}
use Rattle.rule_graph.proofs.slots.Patterns.read.Goals as goal

pub returns-in_ok-new-in-Ok-clause-slot : goal.returns-in_ok-new-in-Ok-clause-slot
returns-in_ok-new-in-Ok-clause-slot c =
    ap (λ p. Read (canonical p)) (c.in_ok-new-in-Ok.ensures.ok ∙ c.in-Ok.pattern-is)
    ∙ sym (slot_of_read c.args.text.now c.in-Ok.pattern c.in-Ok.ensures)
