use Rattle.onig_scan.proofs.FrontLaws.{lifted}
use Rattle.onig_scan.proofs.PastLaws.{past_of_tree}
use Rattle.onig_scan.proofs.past.past_of_all.Goals as goal

pub returns : goal.returns
returns c =
    lifted _ _ c.past_of.result (λ f is. past_of_tree _ _ f is)
    (rw (c.list.ensures.nodes, c.top.ensures.top) at c.past_of.ensures)
