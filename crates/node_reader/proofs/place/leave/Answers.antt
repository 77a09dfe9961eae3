use Rattle.std.proofs.Common.{◌≡◌, ap}
use Rattle.bracket_ast.specs.Shapes.{or_nothing, nows}
use Rattle.node_reader.specs.Paths.{node_of}
use Rattle.node_reader.proofs.Paths.{up_fits}
use Rattle.node_reader.proofs.place.leave.Goals as goal

pub from_part-place-requires : goal.from_part-place-requires
from_part-place-requires c =
    let is : node_of c.in-Some.step ≡ c.in-Some-node.above.now =
    ap (λ n. or_nothing (nows n)) c.in-Some-node.is in
    up_fits c.loop-place.place.path.items c.pop.new.self.items c.in-Some.step c.in-Some-node.above.now
    c.loop-place.place.rest c.in-Some.ensures.items is c.loop-place.invariant.is.fits
