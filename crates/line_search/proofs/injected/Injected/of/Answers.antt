use Rattle.line_search.proofs.Injecting.{ready-fit}
use Rattle.line_search.proofs.injected.Injected.of.Goals as goal

pub returns-clause-fit : goal.returns-clause-fit
returns-clause-fit c = ready-fit c.args.table.now c.in_ok-ready.ready.items c.in_ok-ready.ensures.ready
