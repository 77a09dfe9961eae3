use Rattle.std.proofs.Common.{length, ap, arith}
use Rattle.line_list.proofs.Full.{few_parts}
use Rattle.line_list.proofs.pieces.Pieces.count.Goals as goal

pub returns : goal.returns
returns g c =
    omega (
      arith,
      few_parts c.self.inside.parts.items c.self.invariant.3,
      ap length c.self.view_is,
      c.len.ensures,
      c.self.inside.parts.ok.0,
    )
