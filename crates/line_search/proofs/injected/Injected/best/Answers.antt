use Rattle.std.proofs.Common.{◌≡◌, ◌<◌, List, length, map, ap, sym, ◌∙◌, subst}
use Rattle.std.specs.Prelude.{All, None}
use Rattle.std.proofs.lemmas.List.{length-map}
use Rattle.line_defs.specs.Search.{Sight}
use Rattle.line_search.specs.Prepared.{Prepared, NoneHolds, holding, found_by_numbers, found_by_prepared}
use Rattle.line_search.specs.Asking.{prepared_of}
use Rattle.line_search.specs.Bests.{injected_of}
use Rattle.line_search.proofs.Injecting.{holding_below, numbers_tell, none_found}
use Rattle.line_search.proofs.injected.Injected.best.Goals as goal

pub best_of-requires-clause-numbers : goal.best_of-requires-clause-numbers
best_of-requires-clause-numbers c =
    let all = map prepared_of c.as_slice-3.result.now in
    let same : map prepared_of c.self.inside.ready.items ≡ all = ap (map prepared_of) (sym c.as_slice-3.ensures.value) in
    let first : map prepared_of c.as_slice-2.result.now ≡ all = ap (map prepared_of) c.as_slice-2.ensures.value ∙ same in
    let numbers : c.as_slice-4.result.now ≡ holding c.args.scopes.now 0 all =
    c.as_slice-4.ensures ∙ c.deref.ensures ∙ ap (λ one. one.numbers.value) c.index.ensures
    ∙ c.in_ok-at.ensures.told c.index.result.now ∙ ap (holding c.args.scopes.now 0) first in
    subst (All (λ number. number < length c.as_slice-3.result.now)) (sym numbers)
    (subst (λ n. All (λ number. number < n) (holding c.args.scopes.now 0 all))
    (length-map c.as_slice-3.result.now prepared_of) (holding_below c.args.scopes.now all))

pub returns-clause-found : goal.returns-clause-found
returns-clause-found c =
    let s : Sight = record {
      text = c.args.text.now;
      place = c.args.from;
      flags = c.args.flags;
      budget = c.args.work.now.budget;
    } in
    let all = map prepared_of c.as_slice-3.result.now in
    let same : map prepared_of c.self.inside.ready.items ≡ all = ap (map prepared_of) (sym c.as_slice-3.ensures.value) in
    let first : map prepared_of c.as_slice-2.result.now ≡ all = ap (map prepared_of) c.as_slice-2.ensures.value ∙ same in
    let numbers : c.as_slice-4.result.now ≡ holding c.args.scopes.now 0 all =
    c.as_slice-4.ensures ∙ c.deref.ensures ∙ ap (λ one. one.numbers.value) c.index.ensures
    ∙ c.in_ok-at.ensures.told c.index.result.now ∙ ap (holding c.args.scopes.now 0) first in
    subst (λ (ps : List Prepared). found_by_prepared s c.args.scopes.now ps None ≡ injected_of s ps c.best_of.result)
    (sym same ∙ c.self.view_is)
    (sym (numbers_tell s c.args.scopes.now all) ∙ ap (λ ns. found_by_numbers s all ns None) (sym numbers)
    ∙ c.best_of.ensures.found)

pub returns-then-not-some_may_hold-clause-found : goal.returns-then-not-some_may_hold-clause-found
returns-then-not-some_may_hold-clause-found c =
    let s : Sight = record {
      text = c.args.text.now;
      place = c.args.from;
      flags = c.args.flags;
      budget = c.args.work.now.budget;
    } in
    let same : map prepared_of c.as_slice.result.now ≡ c.args.self.now =
    ap (map prepared_of) c.as_slice.ensures.value ∙ c.self.view_is in
    none_found s c.args.scopes.now c.args.self.now
    (subst (NoneHolds c.args.scopes.now) same (c.some_may_hold.ensures c.if-not-some_may_hold.true))
