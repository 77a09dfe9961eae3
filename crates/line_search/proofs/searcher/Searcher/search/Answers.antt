use Rattle.std.proofs.Common.{◌≡◌, List, [], ◌∙◌, ap, sym, subst, length, refl}
use Rattle.std.specs.Prelude.{true, false, Some, None}
use Rattle.std.proofs.lemmas.Result.{IfOk-weaker}
use Rattle.std.specs.Rc.{rc_value}
use Rattle.scope_defs.specs.Frames.{Frame}
use Rattle.rule_table.specs.Views.{Table}
use Rattle.line_defs.specs.Search.{Sight, choices, scan}
use Rattle.line_defs.specs.Injections.{Keeps, with_injections}
use Rattle.line_search.specs.declared.injected.Best.{Best}
use Rattle.line_search.specs.declared.find.Find.TheVariants as find
use Rattle.line_search.specs.Finds.{found_of, owner_of}
use Rattle.line_search.specs.Machines.{IsOf}
use Rattle.line_search.specs.Prepared.{Prepared, all_prepared, prepared_at, found_by_prepared, ArePrepared}
use Rattle.line_search.specs.Bests.{injected_of, kept_of, IsBest, IfBest, IfSomeBest, wins_over}
use Rattle.line_search.proofs.Injecting.{search-none, search-spent, search-best, best-again, again-same, part-weaker}
use Rattle.line_search.proofs.Injecting.{not-true, hit-same}
use Rattle.line_search.proofs.searcher.Searcher.search.Goals as goal

-- ---- no injections, or a spent attempt before them

pub returns-then-is_empty-clause-found : goal.returns-then-is_empty-clause-found
returns-then-is_empty-clause-found c =
    let s : Sight = record {
      text = c.args.text.now;
      place = c.args.from;
      flags = c.args.flags;
      budget = c.args.work.now.budget;
    } in
    let all : List Prepared = c.self.inside.injected in
    let same : all ≡ all_prepared c.args.self.now.rules c.args.self.now.injections =
    c.self.invariant.injected ∙ ap (λ t. let table : Table = t in all_prepared table.rules table.injections)
    (c.self.view_is ∙ c.in_ok-ordinary.ensures.same) in
    let none : all ≡ [] = c.is_empty.ensures.0 c.if-is_empty.true in
    λ machine is has.
    c.in_ok-ordinary.ensures.found machine is
    ∙ sym (search-none c.args.self.now machine s c.args.frame.now.content all is has same
    (scan s (choices machine c.args.frame.now)) (ap (λ ps. found_by_prepared s c.args.frame.now.content ps None) none))

pub returns-then-is_spent-clause-found : goal.returns-then-is_spent-clause-found
returns-then-is_spent-clause-found c =
    let s : Sight = record {
      text = c.args.text.now;
      place = c.args.from;
      flags = c.args.flags;
      budget = c.args.work.now.budget;
    } in
    let spent : c.in_ok-ordinary.ordinary ≡ find.Spent = c.is_spent.ensures.0 c.if-is_spent.true in
    λ machine is has.
    let found = c.in_ok-ordinary.ensures.found machine is in
    ap (λ f. found_of f c.ordinary.new.work.hit) spent
    ∙ ap (with_injections machine s c.args.frame.now.content)
    (ap (λ f. found_of f c.ordinary.new.work.hit) (sym spent) ∙ found)

-- ---- what injections find

pub returns-in-Spent-clause-found : goal.returns-in-Spent-clause-found
returns-in-Spent-clause-found c =
    let s : Sight = record {
      text = c.args.text.now;
      place = c.args.from;
      flags = c.args.flags;
      budget = c.args.work.now.budget;
    } in
    let all : List Prepared = c.self.inside.injected in
    let same : all ≡ all_prepared c.args.self.now.rules c.args.self.now.injections =
    c.self.invariant.injected ∙ ap (λ t. let table : Table = t in all_prepared table.rules table.injections)
    (c.self.view_is ∙ c.in_ok-ordinary.ensures.same) in
    let scopes : c.frame.inside.content ≡ c.args.frame.now.content =
    ap (λ f. let frame : Frame = f in frame.content) c.frame.view_is in
    let tells : found_by_prepared s c.args.frame.now.content all None ≡ injected_of s all c.in_ok-best.field-0 =
    ap (λ x. found_by_prepared s x all None) (sym scopes)
    ∙ (rw c.in_ok-ordinary.ensures.budget at c.in_ok-best.ensures.found) in
    λ machine is has.
    search-spent c.args.self.now machine s c.args.frame.now.content all is has same
    (scan s (choices machine c.args.frame.now)) (tells ∙ ap (injected_of s all) c.in-Spent.is)

pub returns-in-Kept-None-clause-found : goal.returns-in-Kept-None-clause-found
returns-in-Kept-None-clause-found c =
    let s : Sight = record {
      text = c.args.text.now;
      place = c.args.from;
      flags = c.args.flags;
      budget = c.args.work.now.budget;
    } in
    let all : List Prepared = c.self.inside.injected in
    let same : all ≡ all_prepared c.args.self.now.rules c.args.self.now.injections =
    c.self.invariant.injected ∙ ap (λ t. let table : Table = t in all_prepared table.rules table.injections)
    (c.self.view_is ∙ c.in_ok-ordinary.ensures.same) in
    let scopes : c.frame.inside.content ≡ c.args.frame.now.content =
    ap (λ f. let frame : Frame = f in frame.content) c.frame.view_is in
    let tells : found_by_prepared s c.args.frame.now.content all None ≡ injected_of s all c.in_ok-best.field-0 =
    ap (λ x. found_by_prepared s x all None) (sym scopes)
    ∙ (rw c.in_ok-ordinary.ensures.budget at c.in_ok-best.ensures.found) in
    λ machine is has.
    ap (λ hit. found_of c.in_ok-ordinary.ordinary hit)
    (hit-same c.in_ok-best.field-0 c.in-Kept-None.field-0 _ _ c.in-Kept-None.is c.in-Kept-None.field-0-is
    c.in_ok-best.ensures.stays)
    ∙ c.in_ok-ordinary.ensures.found machine is
    ∙ sym (search-none c.args.self.now machine s c.args.frame.now.content all is has same
    (scan s (choices machine c.args.frame.now))
    (tells ∙ ap (injected_of s all) c.in-Kept-None.is ∙ ap (λ o. Keeps (kept_of s all o)) c.in-Kept-None.field-0-is))

-- ---- the best of them wins

pub again-requires-clause-inside : goal.again-requires-clause-inside
again-requires-clause-inside c =
    let s : Sight = record {
      text = c.args.text.now;
      place = c.args.from;
      flags = c.args.flags;
      budget = c.args.work.now.budget;
    } in
    let all : List Prepared = c.self.inside.injected in
    let is-best : IsBest s all c.in-Kept-Some.best = subst (λ o. IfSomeBest o (IsBest s all)) c.in-Kept-Some.field-0-is
    (subst (λ b. IfBest b (IsBest s all)) c.in-Kept-Some.is
    (rw c.in_ok-ordinary.ensures.budget at c.in_ok-best.ensures.best)) in
    is-best.ends

pub returns-then-wins-clause-found : goal.returns-then-wins-clause-found
returns-then-wins-clause-found c =
    let s : Sight = record {
      text = c.args.text.now;
      place = c.args.from;
      flags = c.args.flags;
      budget = c.args.work.now.budget;
    } in
    let all : List Prepared = c.self.inside.injected in
    let same : all ≡ all_prepared c.args.self.now.rules c.args.self.now.injections =
    c.self.invariant.injected ∙ ap (λ t. let table : Table = t in all_prepared table.rules table.injections)
    (c.self.view_is ∙ c.in_ok-ordinary.ensures.same) in
    let scopes : c.frame.inside.content ≡ c.args.frame.now.content =
    ap (λ f. let frame : Frame = f in frame.content) c.frame.view_is in
    let tells : found_by_prepared s c.args.frame.now.content all None ≡ injected_of s all c.in_ok-best.field-0 =
    ap (λ x. found_by_prepared s x all None) (sym scopes)
    ∙ (rw c.in_ok-ordinary.ensures.budget at c.in_ok-best.ensures.found) in
    let best : Best = c.in-Kept-Some.best in
    let kept : found_by_prepared s c.args.frame.now.content all None ≡ Keeps (kept_of s all (Some best)) =
    tells ∙ ap (injected_of s all) c.in-Kept-Some.is ∙ ap (λ o. Keeps (kept_of s all o)) c.in-Kept-Some.field-0-is in
    let is-best : IsBest s all best = subst (λ o. IfSomeBest o (IsBest s all)) c.in-Kept-Some.field-0-is
    (subst (λ b. IfBest b (IsBest s all)) c.in-Kept-Some.is
    (rw c.in_ok-ordinary.ensures.budget at c.in_ok-best.ensures.best)) in
    let stays : c.best.new.self ≡ all = c.in_ok-best.ensures.same in
    let won : wins_over (prepared_at all best.number).first best.m c.in_ok-ordinary.ordinary ≡ true =
    ap (λ ps. wins_over (prepared_at ps best.number).first best.m c.in_ok-ordinary.ordinary) (sym stays)
    ∙ sym c.wins.ensures ∙ c.if-wins.true in
    let other : c.in_ok-ordinary.ordinary ≡ find.Spent → ⊥ =
    λ spent. not-true (c.is_spent.ensures.1 spent) c.if-is_spent.false in
    λ machine is has.
    (rw (c.in_ok-best.ensures.budget, c.in_ok-ordinary.ensures.budget, stays) at c.again.ensures.found)
    ∙ best-again s all best c.requires.inside is-best
    ∙ search-best c.args.self.now machine s c.args.frame.now.content all is has same best c.in_ok-ordinary.ordinary
    c.ordinary.new.work.hit (scan s (choices machine c.args.frame.now)) true kept is-best other won
    (c.in_ok-ordinary.ensures.found machine is)

pub returns-then-wins-clause-part : goal.returns-then-wins-clause-part
returns-then-wins-clause-part c =
    let s : Sight = record {
      text = c.args.text.now;
      place = c.args.from;
      flags = c.args.flags;
      budget = c.args.work.now.budget;
    } in
    let all : List Prepared = c.self.inside.injected in
    let is-best : IsBest s all c.in-Kept-Some.best = subst (λ o. IfSomeBest o (IsBest s all)) c.in-Kept-Some.field-0-is
    (subst (λ b. IfBest b (IsBest s all)) c.in-Kept-Some.is
    (rw c.in_ok-ordinary.ensures.budget at c.in_ok-best.ensures.best)) in
    part-weaker c.args.from c.in-Kept-Some.best.m.from (length c.args.text.now) c.again.new.work.hit c.again.result
    is-best.begins c.again.ensures.part

pub returns-then-wins-clause-owner : goal.returns-then-wins-clause-owner
returns-then-wins-clause-owner c =
    c.again.ensures.owner (length c.args.self.now.rules) c.args.self.now.groups
    (subst (λ t. let table : Table = t in ArePrepared (length table.rules) table.groups c.best.new.self)
    (c.self.view_is ∙ c.in_ok-ordinary.ensures.same)
    (let P : List Prepared → Type 0 =
    ArePrepared (length (rc_value c.self.inside.table).rules) (rc_value c.self.inside.table).groups in
    subst P (sym c.in_ok-best.ensures.same) c.self.invariant.injected_fit))

-- ---- the ordinary match wins

pub returns-in-At-clause-found : goal.returns-in-At-clause-found
returns-in-At-clause-found c =
    let s : Sight = record {
      text = c.args.text.now;
      place = c.args.from;
      flags = c.args.flags;
      budget = c.args.work.now.budget;
    } in
    let all : List Prepared = c.self.inside.injected in
    let same : all ≡ all_prepared c.args.self.now.rules c.args.self.now.injections =
    c.self.invariant.injected ∙ ap (λ t. let table : Table = t in all_prepared table.rules table.injections)
    (c.self.view_is ∙ c.in_ok-ordinary.ensures.same) in
    let scopes : c.frame.inside.content ≡ c.args.frame.now.content =
    ap (λ f. let frame : Frame = f in frame.content) c.frame.view_is in
    let tells : found_by_prepared s c.args.frame.now.content all None ≡ injected_of s all c.in_ok-best.field-0 =
    ap (λ x. found_by_prepared s x all None) (sym scopes)
    ∙ (rw c.in_ok-ordinary.ensures.budget at c.in_ok-best.ensures.found) in
    let best : Best = c.in-Kept-Some.best in
    let kept : found_by_prepared s c.args.frame.now.content all None ≡ Keeps (kept_of s all (Some best)) =
    tells ∙ ap (injected_of s all) c.in-Kept-Some.is ∙ ap (λ o. Keeps (kept_of s all o)) c.in-Kept-Some.field-0-is in
    let is-best : IsBest s all best = subst (λ o. IfSomeBest o (IsBest s all)) c.in-Kept-Some.field-0-is
    (subst (λ b. IfBest b (IsBest s all)) c.in-Kept-Some.is
    (rw c.in_ok-ordinary.ensures.budget at c.in_ok-best.ensures.best)) in
    let stays : c.best.new.self ≡ all = c.in_ok-best.ensures.same in
    let won : wins_over (prepared_at all best.number).first best.m c.in_ok-ordinary.ordinary ≡ false =
    ap (λ ps. wins_over (prepared_at ps best.number).first best.m c.in_ok-ordinary.ordinary) (sym stays)
    ∙ sym c.wins.ensures ∙ c.if-wins.false in
    let other : c.in_ok-ordinary.ordinary ≡ find.Spent → ⊥ =
    λ spent. not-true (c.is_spent.ensures.1 spent) c.if-is_spent.false in
    IfOk-weaker c.ordinary-in-At.result _ _
    (λ find found machine is has.
    let first = c.in_ok-ordinary.ensures.found machine is in
    (rw (c.in_ok-best.ensures.budget, c.in_ok-ordinary.ensures.budget) at found machine
    (subst (λ t. IsOf t machine) (sym (c.self.view_is ∙ c.in_ok-ordinary.ensures.same)) is))
    ∙ again-same s (choices machine c.args.frame.now)
    (record { of = owner_of c.in-At.m.of; from = c.in-At.m.from; to = c.in-At.m.to; captures = c.ordinary.new.work.hit })
    c.in-At.m.from c.requires.inside refl
    (ap (λ f. found_of f c.ordinary.new.work.hit) (sym c.in-At.is) ∙ first)
    ∙ search-best c.args.self.now machine s c.args.frame.now.content all is has same best c.in_ok-ordinary.ordinary
    c.ordinary.new.work.hit (scan s (choices machine c.args.frame.now)) false kept is-best other won first)
    c.ordinary-in-At.ensures.found
