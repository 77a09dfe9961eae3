use Rattle.onig_scan.proofs.FrontLaws.{IsFrontOfAll-top}
use Rattle.onig_scan.proofs.front_of.front_of_all.Goals as goal

pub returns-in-Some : goal.returns-in-Some
returns-in-Some c =
    let is = rw c.in-Some.is at c.in_ok-front.ensures in
    IsFrontOfAll-top c.args.pattern.now c.in-Some.front c.if-not-branch.true
    (rw (c.list.ensures.nodes, c.top.ensures.top) at is)
