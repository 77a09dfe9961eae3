use Rattle.std.proofs.Common.{◌≡◌, drop}
use Rattle.std.specs.Prelude.{◌&&◌, ◌||◌}
use Rattle.graph_defs.specs.Slots.{is_later, begins_with_digit}
use Rattle.rule_graph.proofs.slots.is_later.Given as goal

-- what is left tells the whole
abbrev pub invariant-loop-byte : goal.invariant-loop-byte
invariant-loop-byte l =
    ((l.escaped && begins_with_digit (drop l.byte-index l.text)) || is_later (drop l.byte-index l.text))
    ≡ is_later l.text
