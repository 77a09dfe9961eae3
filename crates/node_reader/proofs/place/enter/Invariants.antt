use Rattle.text_pos.specs.Lengths.{IsLess}
use Rattle.tree_defs.specs.Shape.{length_of, IsSome}
use Rattle.bracket_ast.specs.Weight.{weight}
use Rattle.node_reader.specs.Paths.{IsSamePlace}
use Rattle.node_reader.proofs.place.enter.Given as goal

abbrev pub invariant-loop-part : goal.invariant-loop-part
invariant-loop-part l = IsSamePlace l.fn.place l.place × IsLess l.place.rest (length_of l.place.node.now)
    × IsSome l.place.rest

abbrev pub decreases-loop-part : goal.decreases-loop-part
decreases-loop-part l = weight l.place.node.now
