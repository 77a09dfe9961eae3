use Rattle.std.proofs.Common.{refl}
use Rattle.onig_scan.proofs.PastLaws.{IsPast-line, IsPast-edge}
use Rattle.onig_scan.proofs.past.past_of_anchor.Goals as goal

pub returns-in_ok-set-in-LineStart : goal.returns-in_ok-set-in-LineStart
returns-in_ok-set-in-LineStart c =
    λ lists. rw c.in-LineStart.is (IsPast-line c.args.inside lists _ refl c.in_ok-set-in-LineStart.ensures)

pub returns-then-inside : goal.returns-then-inside
returns-then-inside c = λ lists. rw (c.in-WordEdge.is, c.if-inside.true) (IsPast-edge lists _)
