use Rattle.std.proofs.Common.{◌+◌, ◌≤◌, length, sym, arith}
use Rattle.std.proofs.lemmas.List.{drop-drop}
use Rattle.std.proofs.lemmas.Result.{err_from_is_err_and}
use Rattle.syntax_defs.specs.declared.class_part.ClassPart.TheVariants.{End, Close, And, Class, Member}
use Rattle.syntax_defs.specs.Classes.{together, next_side, with_member}
use Rattle.onig_class.proofs.ClassLemmas.{turn, fails_bind, member_of, placed_gives, complement_gives, no_levels}
use Rattle.onig_class.proofs.ClassLemmas.{some_levels}
use Rattle.onig_class.proofs.class.+class.Goals as goal

pub class_within-returns-then-levels-eq0-clause-value :
    goal.class_within-returns-then-levels-eq0-clause-value
class_within-returns-then-levels-eq0-clause-value t c = rw c.from.ensures (no_levels _ _ _ _ c.if-levels-eq0.true)

pub class_within-returns-in_err-set-clause-value :
    goal.class_within-returns-in_err-set-clause-value
class_within-returns-in_err-set-clause-value t c =
    let p = err_from_is_err_and c.from_residual.result c.from_residual.ensures.1 in
    let is = some_levels c.args.levels c.args.at c.opening-negated.result.1 c.args.fold c.opening-negated.result.0
    c.args.text.now c.if-levels-eq0.false c.opening-negated.ensures.negated c.opening-negated.ensures.start in
    rw (p.1, p.2) (fails_bind _ _ _ _ c.in_err-set.ensures.value (sym is))

pub class_within-returns-clause-value : goal.class_within-returns-clause-value
class_within-returns-clause-value t c =
    let is = some_levels c.args.levels c.args.at c.opening-negated.result.1 c.args.fold c.opening-negated.result.0
    c.args.text.now c.if-levels-eq0.false c.opening-negated.ensures.negated c.opening-negated.ensures.start in
    rw is (complement_gives _ _ _ _ _ _ _ c.in_ok-set.ensures.value c.complement_if.ensures c.placed.ensures.found
    c.placed.ensures.memory)

pub members-returns-in-End-clause-value : goal.members-returns-in-End-clause-value
members-returns-in-End-clause-value t c =
    let w = turn _ _ _ _ _ _ End _ c.loop-sides.invariant.going c.loop-sides.invariant.within c.in-End.ensures.value in
    sym w.same

pub members-returns-in-Close-clause-value : goal.members-returns-in-Close-clause-value
members-returns-in-Close-clause-value t c =
    let w = turn _ _ _ _ _ _ Close _ c.loop-sides.invariant.going c.loop-sides.invariant.within
    c.in-Close.ensures.value in
    placed_gives _ (together w.q) _ _ _ _ _ (c.together.ensures w.q w.fits) c.placed.ensures.found
    c.placed.ensures.memory (sym (drop-drop 1 c.loop-sides.at c.args.text.now)) (sym w.same)

pub members-returns-in_err-set-in-Class-clause-value :
    goal.members-returns-in_err-set-in-Class-clause-value
members-returns-in_err-set-in-Class-clause-value t c =
    let p = err_from_is_err_and c.from_residual-in_err-set-in-Class.result
    c.from_residual-in_err-set-in-Class.ensures.1 in
    let w = turn _ _ _ _ _ _ Class _ c.loop-sides.invariant.going c.loop-sides.invariant.within
    c.in-Class.ensures.value in
    rw (p.1, p.2) (fails_bind _ _ _ _ c.in_err-set-in-Class.ensures.value w.same)

pub members-returns-in_err-set-in-Member-clause-value :
    goal.members-returns-in_err-set-in-Member-clause-value
members-returns-in_err-set-in-Member-clause-value t c =
    let p = err_from_is_err_and c.from_residual-in_err-set-in-Member.result
    c.from_residual-in_err-set-in-Member.ensures.1 in
    let w = turn _ _ _ _ _ _ Member _ c.loop-sides.invariant.going c.loop-sides.invariant.within
    c.in-Member.ensures.value in
    rw (p.1, p.2) (fails_bind _ _ _ _ c.in_err-set-in-Member.ensures.value w.same)

pub members-loop-sides-preserved-in_ok-sides-in-And :
    goal.members-loop-sides-preserved-in_ok-sides-in-And
members-loop-sides-preserved-in_ok-sides-in-And t c =
    let w = turn _ _ _ _ _ _ And _ c.loop-sides.invariant.going c.loop-sides.invariant.within c.in-And.ensures.value in
    let begun : c.args.start ≤ c.loop-sides.at = c.loop-sides.invariant.begun in
    let inside : c.loop-sides.at + 2 ≤ length c.args.text.now = c.in-And.ensures.inside in
    record {
      begun = omega arith;
      within = omega arith;
      going = record {
        q = next_side w.q;
        most = w.fewer;
        fits = c.in_ok-sides-in-And.ensures w.q w.fits;
        enough = omega (arith, w.enough);
        same = rw (← drop-drop 2 c.loop-sides.at c.args.text.now) w.same;
      };
    }

pub members-loop-sides-preserved-in_ok-sides-in-Class :
    goal.members-loop-sides-preserved-in_ok-sides-in-Class
members-loop-sides-preserved-in_ok-sides-in-Class t c =
    let w = turn _ _ _ _ _ _ Class _ c.loop-sides.invariant.going c.loop-sides.invariant.within
    c.in-Class.ensures.value in
    let m = member_of _ _ _ _ _ _ c.in_ok-set-in-Class.ensures.value w.same in
    let place = c.in_ok-set-in-Class.ensures.place in
    let begun : c.args.start ≤ c.loop-sides.at = c.loop-sides.invariant.begun in
    record {
      begun = omega (arith, place.0);
      within = place.1;
      going = record {
        q = with_member w.q m.p;
        most = w.fewer;
        fits = c.in_ok-sides-in-Class.ensures w.q m.p w.fits m.fits;
        enough = omega (arith, w.enough, place.0);
        same = m.same;
      };
    }

pub members-loop-sides-preserved : goal.members-loop-sides-preserved
members-loop-sides-preserved t c =
    let w = turn _ _ _ _ _ _ Member _ c.loop-sides.invariant.going c.loop-sides.invariant.within
    c.in-Member.ensures.value in
    let m = member_of _ _ _ _ _ _ c.in_ok-set-in-Member.ensures.value w.same in
    let place = c.in_ok-set-in-Member.ensures.place in
    let begun : c.args.start ≤ c.loop-sides.at = c.loop-sides.invariant.begun in
    record {
      begun = omega (arith, place.0);
      within = place.1;
      going = record {
        q = with_member w.q m.p;
        most = w.fewer;
        fits = c.in_ok-sides-in-Member.ensures w.q m.p w.fits m.fits;
        enough = omega (arith, w.enough, place.0);
        same = m.same;
      };
    }
