use Rattle.onig_scan.proofs.BoundLaws.{of_sum}
use Rattle.onig_scan.proofs.PastLaws.{IsPassing-At, IsPassing-Ahead, IsPassing-Behind}
use Rattle.onig_scan.proofs.past.visits_to_pass.Goals as goal

pub returns-in-At : goal.returns-in-At
returns-in-At c = rw c.in-At.is (IsPassing-At _ _)

pub returns-in_ok-seen-in-Ahead : goal.returns-in_ok-seen-in-Ahead
returns-in_ok-seen-in-Ahead c =
    let is = rw c.list.ensures.nodes at c.in_ok-seen-in-Ahead.ensures in
    rw c.in-Ahead.is (of_sum _ _ _ c.checked_add.result c.checked_add.ensures
    (IsPassing-Ahead _ _ _ _ is))

pub returns-in_ok-seen-in-Behind : goal.returns-in_ok-seen-in-Behind
returns-in_ok-seen-in-Behind c =
    let are = rw c.as_slice.ensures at c.in_ok-seen-in-Behind.ensures in
    rw c.in-Behind.is (of_sum _ _ _ c.checked_add-in-Behind.result c.checked_add-in-Behind.ensures
    (IsPassing-Behind _ _ _ _ are))
