use Rattle.onig_match.specs.Machine.{subject}
use Rattle.onig_match.proofs.EarlyWays.{passes_none, passes_ways}
use Rattle.onig_match.proofs.returns.pass_early.Goals as goal

pub returns-in_default : goal.returns-in_default
returns-in_default c = passes_none (subject c.args.on.now) c.args.entry

pub returns : goal.returns
returns c =
    passes_ways (subject c.args.on.now) c.args.entry c.in-Alternatives.node c.in-Alternatives.way c.in-Alternatives.next
    c.pass_ways-ways.result.way c.pass_ways-ways.result.more c.in-Alternatives.is c.pass_ways-ways.ensures
