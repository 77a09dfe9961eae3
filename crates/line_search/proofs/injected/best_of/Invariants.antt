use Rattle.std.proofs.Common.{◌≡◌, drop, map}
use Rattle.std.specs.Prelude.{None}
use Rattle.line_defs.specs.Search.{Sight}
use Rattle.line_search.specs.Prepared.{found_by_numbers}
use Rattle.line_search.specs.Asking.{prepared_of}
use Rattle.line_search.specs.Bests.{kept_of, IsBest, IfSomeBest, IfNoBest}
use Rattle.line_search.proofs.injected.best_of.Given as goal

-- the best so far, and what is left to search, tell what all find
abbrev pub invariant-loop-number : goal.invariant-loop-number
invariant-loop-number l =
    let s : Sight = record { text = l.text; place = l.from; flags = l.flags; budget = l.initial.work.budget } in
    record {
      budget : l.work.budget ≡ l.initial.work.budget;
      room : l.work.room ≡ l.initial.work.room;
      found : found_by_numbers s (map prepared_of l.ready) (drop l.number-index l.numbers)
          (kept_of s (map prepared_of l.ready) l.best)
          ≡ found_by_numbers s (map prepared_of l.ready) l.numbers None;
      best : IfSomeBest l.best (IsBest s (map prepared_of l.ready));
      stays : IfNoBest l.best (l.work.hit ≡ l.initial.work.hit);
    }
