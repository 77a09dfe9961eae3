use Rattle.std.proofs.Common.{map, ap, sym, ◌∙◌}
use Rattle.line_search.specs.Finds.{found_of}
use Rattle.line_search.specs.Asking.{prepared_of}
use Rattle.line_search.proofs.Injecting.{step-nothing, step-spent}
use Rattle.line_search.proofs.injected.weigh.Goals as goal

pub returns-in-Nothing-clause-step : goal.returns-in-Nothing-clause-step
returns-in-Nothing-clause-step c =
    λ next. step-nothing _ (map prepared_of c.args.ready.now) c.args.number c.args.best next
    (ap (λ f. found_of f c.find_one.new.work.hit) (sym c.in-Nothing.is) ∙ c.find_one.ensures.found)

pub returns-in-Spent-clause-step : goal.returns-in-Spent-clause-step
returns-in-Spent-clause-step c =
    λ next. step-spent _ (map prepared_of c.args.ready.now) c.args.number c.args.best next
    (ap (λ f. found_of f c.find_one.new.work.hit) (sym c.in-Spent.is) ∙ c.find_one.ensures.found)
