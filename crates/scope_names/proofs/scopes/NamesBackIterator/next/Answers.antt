use Rattle.std.proofs.Common.{sym, ◌∙◌}
use Rattle.scope_names.proofs.Fronts.{next_back}
use Rattle.scope_names.proofs.scopes.NamesBackIterator.next.Goals as goal

pub returns-clause-steps : goal.returns-clause-steps
returns-clause-steps c =
    sym c.self.view_is
    ∙ next_back c.self.inside.scopes.now c.front_with.result.0.now c.self.inside.left c.front_with.result.1.now
    c.if-self-eq0.false c.front_with.ensures.name c.front_with.ensures.front
