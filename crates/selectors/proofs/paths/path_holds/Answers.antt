use Rattle.std.proofs.Common.{false, take, reverse, sym, ◌∙◌, ap, arith}
use Rattle.std.proofs.Math.Seq.{take-length}
use Rattle.scope_defs.specs.Scopes.{Scopes}
use Rattle.selectors.proofs.FoundBack.{first_found, found_back, one_more, at_front}
use Rattle.selectors.proofs.paths.path_holds.Goals as goal

pub loop-scope-init : goal.loop-scope-init
loop-scope-init c = record {
  within = omega arith;
  found = let it = c.into_iter-scope-iterator in
      ap (λ xs. first_found (reverse xs) it.result) (take-length c.args.names.now)
      ∙ (ap (first_found (reverse c.args.names.now)) (it.ensures.into_iter_gives ∙ c.names_back-scope-items.ensures)
      ∙ found_back c.args.names.now c.args.scopes.now);
}

pub loop-scope-preserved : goal.loop-scope-preserved
loop-scope-preserved c = record {
  within = c.loop-scope.invariant.within;
  found =
      sym (one_more c.args.names.now c.loop-scope.left c.in-Some.scope.now c.next.new.self
      false c.if-left-eq0.false c.loop-scope.invariant.within
      (sym c.last_matches.ensures ∙ c.if-last_matches.false))
      ∙ (ap (λ (rest : Scopes). first_found (reverse (take c.loop-scope.left c.args.names.now)) rest)
      (sym c.in-Some.ensures.steps) ∙ c.loop-scope.invariant.found);
}

pub returns : goal.returns
returns c =
    sym (at_front c.args.names.now c.loop-scope.left c.loop-scope.invariant.within)
    ∙ (ap (λ (rest : Scopes). first_found (reverse (take c.loop-scope.left c.args.names.now)) rest)
    (sym c.in-None.ensures.steps.0) ∙ c.loop-scope.invariant.found)
