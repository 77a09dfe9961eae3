use Rattle.std.proofs.Common.{◌+◌, map, drop, sym, ◌∙◌}
use Rattle.line_defs.specs.Search.{Sight}
use Rattle.line_search.specs.Prepared.{found_by_numbers}
use Rattle.line_search.specs.Asking.{prepared_of}
use Rattle.line_search.specs.Bests.{kept_of}
use Rattle.line_search.proofs.Injecting.{numbers-next, stays-next}
use Rattle.line_search.proofs.injected.best_of.Goals as goal

pub returns-in-Spent-clause-found : goal.returns-in-Spent-clause-found
returns-in-Spent-clause-found c =
    let s : Sight = record {
      text = c.args.text.now;
      place = c.args.from;
      flags = c.args.flags;
      budget = c.args.work.now.budget;
    } in
    let all = map prepared_of c.args.ready.now in
    sym c.loop-number.invariant.found
    ∙ numbers-next s all c.args.numbers.now c.loop-number.number-index 0 (kept_of s all c.loop-number.best)
    c.loop-number-test.true
    ∙ (rw c.loop-number.invariant.budget at (c.in-Spent.ensures.step
    (found_by_numbers s all (drop (c.loop-number.number-index + 1) c.args.numbers.now))))

pub returns-in-Done-clause-found : goal.returns-in-Done-clause-found
returns-in-Done-clause-found c =
    let s : Sight = record {
      text = c.args.text.now;
      place = c.args.from;
      flags = c.args.flags;
      budget = c.args.work.now.budget;
    } in
    let all = map prepared_of c.args.ready.now in
    sym c.loop-number.invariant.found
    ∙ numbers-next s all c.args.numbers.now c.loop-number.number-index 0 (kept_of s all c.loop-number.best)
    c.loop-number-test.true
    ∙ (rw c.loop-number.invariant.budget at (c.in-Done.ensures.step
    (found_by_numbers s all (drop (c.loop-number.number-index + 1) c.args.numbers.now))))

pub loop-number-preserved : goal.loop-number-preserved
loop-number-preserved c =
    let s : Sight = record {
      text = c.args.text.now;
      place = c.args.from;
      flags = c.args.flags;
      budget = c.args.work.now.budget;
    } in
    let all = map prepared_of c.args.ready.now in
    record {
      budget = c.weigh.ensures.budget ∙ c.loop-number.invariant.budget;
      room = c.weigh.ensures.room ∙ c.loop-number.invariant.room;
      found = sym (rw c.loop-number.invariant.budget at (c.in-Next.ensures.step
          (found_by_numbers s all (drop (c.loop-number.number-index + 1) c.args.numbers.now))))
          ∙ sym (numbers-next s all c.args.numbers.now c.loop-number.number-index 0 (kept_of s all c.loop-number.best)
          c.loop-number-test.true)
          ∙ c.loop-number.invariant.found;
      best = rw c.loop-number.invariant.budget at c.in-Next.ensures.best;
      stays = stays-next c.in-Next.next c.loop-number.best c.weigh.new.work.hit c.loop-number.work.hit
          c.args.work.now.hit c.in-Next.ensures.stays c.loop-number.invariant.stays;
    }
