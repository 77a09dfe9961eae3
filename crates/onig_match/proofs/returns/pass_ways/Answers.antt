use Rattle.std.proofs.Common.{arith, sym}
use Rattle.onig_match.specs.Machine.{subject, ids_at}
use Rattle.onig_match.proofs.EarlyWays.{ways_more}
use Rattle.onig_match.proofs.returns.pass_ways.Goals as goal

pub loop-ways-preserved : goal.loop-ways-preserved
loop-ways-preserved c =
    record {
      passes = ways_more (subject c.args.on.now) (ids_at c.args.on.now.pattern.now.lists c.args.node) c.args.at
          c.args.way c.loop-ways.ways.way c.loop-ways.ways.more c.in-Some-early_miss.more c.in-Some.id
          c.loop-ways.invariant.passes (sym (c.in-Some.ensures).value) (c.in-Some-early_miss.ensures).early;
      few = omega (arith, (c.in-Some-early_miss.ensures).few, c.loop-ways-test.true);
    }
