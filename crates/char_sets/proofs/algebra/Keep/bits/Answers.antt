use Rattle.std.proofs.Common.{arith}
use Rattle.char_sets.proofs.Words.{or-bits, and-bits, without-bits}
use Rattle.char_sets.proofs.algebra.Keep.bits.Goals as goal

pub returns-in-Either : goal.returns-in-Either
returns-in-Either c k a b lt first second = rw (c.in-Either.is) (or-bits c.args.first c.args.second k a b first second)

pub returns-in-Both : goal.returns-in-Both
returns-in-Both c k a b lt first second = rw (c.in-Both.is) (and-bits c.args.first c.args.second k a b first second)

pub returns-in-FirstAlone : goal.returns-in-FirstAlone
returns-in-FirstAlone c k a b lt first second =
    rw (c.in-FirstAlone.is)
    (without-bits c.args.first c.args.second k a b (omega (arith, c.ranges.second)) lt first second)
