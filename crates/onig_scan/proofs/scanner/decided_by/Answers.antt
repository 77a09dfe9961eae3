use Rattle.std.proofs.Common.{refl, sym}
use Rattle.onig_scan.proofs.Places.{goes_on_by, hits_by, spent_by}
use Rattle.onig_scan.proofs.scanner.decided_by.Goals as goal

pub returns-in-Hit-clause-found : goal.returns-in-Hit-clause-found
returns-in-Hit-clause-found c =
    hits_by _ _ _ _ _ _ _ c.index-entries-index.result c.requires.there (sym c.index-entries-index.is)
    (sym c.in-Hit.ensures.outcome) c.in-Hit.ensures.work
    (c.in-Hit.ensures.groups refl) (c.in-Hit.ensures.captures refl) (c.in-Hit.ensures.whole refl)

pub returns-in-Spent-clause-found : goal.returns-in-Spent-clause-found
returns-in-Spent-clause-found c =
    spent_by _ _ _ _ _ _ _ c.index-entries-index.result c.requires.there (sym c.index-entries-index.is)
    (sym c.in-Spent.ensures.outcome) c.in-Spent.ensures.work

pub returns-in-Miss-clause-missed : goal.returns-in-Miss-clause-missed
returns-in-Miss-clause-missed c =
    goes_on_by _ _ _ _ _ _ _ c.index-entries-index.result c.requires.there (sym c.index-entries-index.is)
    (sym c.in-Miss.ensures.outcome) c.in-Miss.ensures.work
