use Rattle.std.proofs.Common.{ap, sym, ◌∙◌, ◌++◌, drop}
use Rattle.std.proofs.lemmas.List.{nil_from_length}
use Rattle.line_list.proofs.Laid.{stepped}
use Rattle.line_list.proofs.items.ItemsIterator.next.Goals as goal

pub returns-clause-steps : goal.returns-clause-steps
returns-clause-steps g c =
    let behind = drop c.self.inside.next c.self.inside.list.now in
    sym c.self.view_is ∙ ap (λ xs. xs ++ behind) (nil_from_length c.self.inside.run.now c.in_default.ensures.cases)
    ∙ stepped c.self.inside.list.now c.run_from-run.result.now c.self.inside.next c.index-run-0.result
    c.run_from-run.ensures.some c.run_from-run.ensures.run c.index-run-0.is
