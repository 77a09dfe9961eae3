use Rattle.std.proofs.Common.{arith}
use Rattle.pattern_tree.proofs.ArenaLemmas.{sum_by-parts}
use Rattle.pattern_tree.proofs.arena.NodeArena.size.Goals as goal

pub returns : goal.returns
returns c = rw (← c.self.view_is) (omega
    (arith, sum_by-parts c.self.inside.nodes.items 0 c.self.inside.ends.items c.self.invariant.ends, c.len.ensures))
