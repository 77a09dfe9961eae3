use Rattle.std.proofs.Common.{◌≡◌, ◌∙◌, Option, refl, subst, arith}
use Rattle.pattern_defs.specs.FirstMatch.{Pair, pairs_at, first_of, first_pair, found_at, captures_at}
use Rattle.onig_scan.proofs.Searches.{first_pair-decided, first_pair-missed}
use Rattle.onig_scan.proofs.scanner.Scanner.find.Goals as goal

-- the place decides the search
over : (c : goal.In-Some) → first_of (pairs_at 0 c.args.self.now c.loop-at.at) c.args.text.now c.args.flags
    c.loop-at.work.budget
    ≡ first_pair c.args.self.now c.args.text.now c.args.from c.args.flags c.loop-at.work.budget
over c =
    first_pair-decided c.args.self.now c.args.text.now c.args.from c.loop-at.at c.args.flags c.loop-at.work.budget
    c.in-Some.ensures.found.pair (omega arith)
    c.loop-at.invariant.missed c.in-Some.ensures.found.decides

pub returns-in-Some-clause-found : goal.returns-in-Some-clause-found
returns-in-Some-clause-found c =
    let Found : Option Pair → Type 0 = λ o. c.in-Some.found
    ≡ found_at c.args.text.now c.args.flags c.loop-at.work.budget o in
    rw (← c.loop-at.invariant.same) (subst Found (over c) c.in-Some.ensures.found.found)

pub returns-in-Some-clause-work : goal.returns-in-Some-clause-work
returns-in-Some-clause-work c =
    let Left : Option Pair → Type 0 = λ o. c.find_at.new.work
    ≡ record c.loop-at.work {
      hit = captures_at c.args.text.now c.args.flags c.loop-at.work.budget o
          c.loop-at.work.hit;
    } in
    rw (← c.loop-at.invariant.same) (subst Left (over c) c.in-Some.ensures.found.work)

pub loop-at-preserved : goal.loop-at-preserved
loop-at-preserved c =
    record {
      missed = rw c.in_default.ensures.missed.same
          (first_pair-missed c.args.self.now c.args.text.now c.args.from c.loop-at.at c.args.flags
          c.loop-at.work.budget (omega arith) c.loop-at.invariant.missed c.in_default.ensures.missed.missed);
      same = c.in_default.ensures.missed.same ∙ c.loop-at.invariant.same;
    }

-- a place at which no pattern may match
pub loop-at-preserved-then-is_idle : goal.loop-at-preserved-then-is_idle
loop-at-preserved-then-is_idle c =
    record {
      missed = first_pair-missed c.args.self.now c.args.text.now c.args.from c.loop-at.at c.args.flags
          c.loop-at.work.budget (omega arith) c.loop-at.invariant.missed
          (rw c.budget.ensures at (c.if-is_idle.ensures refl c.args.flags));
      same = c.loop-at.invariant.same;
    }
